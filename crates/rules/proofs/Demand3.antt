-- Demand 3 (specs/Demand3.antt): for every choice of the conversions, and so of the row call. Assumes nothing.
use Prim.Native.Nat.{ℕ, ◌≤◌, ◌<◌}
use mathlib.Core.Path.{◌≡◌, refl, sym, ap, ◌∙◌, subst⁻¹}
use mathlib.Core.Bool.{Bool, true, false, cond, true≢false}
use mathlib.Core.List.{List, [], ◌∷◌}
use native.Mathlib.Omega.{arith}
use lib.ListN.{length, get_or, take, drop, length-append}
use lib.Seq.{take_at, take-take, length-take-le}
use lib.Dec.{ltb}
use borrow.Author.Tests.{le-ltb, ltb-false}
use Rattle.refusal.specs.Refusal.{Told, accepted, refused, input_limit}
use Rattle.buffer.specs.Buffer.{overwritten}
use Rattle.types.specs.declared.ColumnDescriptor.{ColumnDescriptor}
use Rattle.types.specs.declared.Columns.{Columns}
use Rattle.types.specs.Places.{max_columns, filled, blank_value}
use Rattle.rules.specs.OwnEnd.{all_carry_own_end}
use Rattle.rules.specs.Meaning.{Conversions}
use Rattle.rules.specs.Walk.{Cell, Walk, done, short, walk_row}
use Rattle.rules.specs.Value.{texts_together}
use Rattle.rules.specs.Row.{Decision, refuse, accept, covered, any_dec_float, row_values, row_texts, walk_decision, body_decision, row_decision, answer_of, text_after, answer_with, text_with}
use Rattle.rules.specs.Conversions.{conversions_of, row_answer, row_text}
use Rattle.rules.specs.Demand3.{SameAnswer, AcceptedRow, Longer, Shorter, Alone, Demand3}
use Rattle.rules.proofs.Walks.{is_done, used_of, pieces_of}
use Rattle.rules.proofs.Rows.{row_used, row_cuts, row_begins, row_shorter}
use Rattle.rules.proofs.Answers.{AllPlaced, row_placed, places_within, filled_together, value_same}
use Rattle.rules.proofs.Releases.{at_release}

-- ---- what an outcome shows

pub refused_not : (n : ℕ) (vs : List ℕ) → refused n vs ≡ accepted → ⊥
refused_not n vs e = let o : ◌≡◌ {A = ℕ} 0 1 = cc in omega arith

module _ (L : Conversions) where
  -- a test that refuses by another outcome was false
  past : (o : Told) (b : Bool) (n : ℕ) (vs : List ℕ) (x : Decision) → (refused n vs ≡ o → ⊥) → (answer_of L (cond b (refuse n vs) x)).outcome ≡ o
      → (b ≡ false) × (cond b (refuse n vs) x ≡ x)
  unfolding answer_of
  past o true n vs x other e = absurd (other e)
  past o false n vs x other e = (refl, refl)

  pub walked_accepted : (w : Walk) (d : List ℕ) → (answer_of L (walk_decision L w d)).outcome ≡ accepted
      → (is_done w ≡ true) × (length (row_texts L (pieces_of w)) ≤ length d) × (walk_decision L w d ≡ accept (pieces_of w) (used_of w))
  unfolding walk_decision answer_of
  walked_accepted (done ps n) d e =
      let r = past accepted (ltb (length d) (length (row_texts L ps))) 9 (length (row_texts L ps) ∷ []) (accept ps n) (refused_not 9 (length (row_texts L ps) ∷ [])) e in
      (refl, ltb-false (length d) (length (row_texts L ps)) r.0, r.1)
  walked_accepted (short x y) d e = absurd (refused_not 8 (x ∷ y ∷ []) e)

  walked_done : (w : Walk) (d : List ℕ) → is_done w ≡ true → length (row_texts L (pieces_of w)) ≤ length d → walk_decision L w d ≡ accept (pieces_of w) (used_of w)
  unfolding walk_decision
  walked_done (done ps n) d o h = rw (le-ltb (length d) (length (row_texts L ps)) h)
  walked_done (short x y) d o h = absurd (true≢false (sym o))

  walked_short : (w : Walk) (d : List ℕ) → is_done w ≡ false → (expected : ℕ) × (actual : ℕ) × (walk_decision L w d ≡ refuse 8 (expected ∷ actual ∷ []))
  unfolding walk_decision
  walked_short (done ps n) d o = absurd (true≢false o)
  walked_short (short x y) d o = (x, y, refl)

  -- two accepted answers to one walk, on inputs that begin with the same bytes
  answers_same : (ps : List Cell) (n : ℕ) (s t x y : List ℕ) → AllPlaced n ps → take n t ≡ take n s → n ≤ length s
      → SameAnswer (answer_of L (accept ps n)) t (text_after L (accept ps n) y) (answer_of L (accept ps n)) s (text_after L (accept ps n) x)
  unfolding answer_of text_after
  answers_same ps n s t x y p e k =
      let ts = row_texts L ps in
      record {
        outcome = refl;
        places = refl;
        bytes =
            λ i.
            value_same (get_or (filled blank_value (row_values L ps 0)) i blank_value).value n (length ts) s t (overwritten ts x) (overwritten ts y)
            (places_within L n ps p i)
            e
            k
            (take_at ts (drop (length ts) y) (length ts) refl ∙ sym (take_at ts (drop (length ts) x) (length ts) refl))
            (omega (arith, length-append ts (drop (length ts) x)));
        used = refl;
        replaced = refl;
      }

module _ (L : Conversions) (columns : Columns) where
  abbrev cs : List ColumnDescriptor
  cs = covered columns

  -- all that an outcome shows of the tests before the walk, where it is none of their refusals
  pub record Tested (s d : List ℕ) : Type 0 where
    pub few : ltb max_columns columns.count ≡ false
    pub fits : length s ≤ input_limit
    pub plain : any_dec_float (covered columns) ≡ false
    pub walked : row_decision L columns s d ≡ walk_decision L (walk_row (covered columns) s) d

  pub tested : (o : Told) (s d : List ℕ) → ((n : ℕ) → n < 8 → refused n [] ≡ o → ⊥) → (answer_with L columns s d).outcome ≡ o → Tested s d
  unfolding row_decision body_decision
  tested o s d other e =
      let end = walk_decision L (walk_row cs s) d in
      let third = cond (any_dec_float cs) (refuse 5 []) end in
      let second = cond (ltb input_limit (length s)) (refuse 4 []) third in
      let a = past L o (ltb max_columns columns.count) 3 [] second (other 3 (omega arith)) e in
      let e₂ = sym (ap (λ (x : Decision). (answer_of L x).outcome) a.1) ∙ e in
      let b = past L o (ltb input_limit (length s)) 4 [] third (other 4 (omega arith)) e₂ in
      let e₃ = sym (ap (λ (x : Decision). (answer_of L x).outcome) b.1) ∙ e₂ in
      let c = past L o (any_dec_float cs) 5 [] end (other 5 (omega arith)) e₃ in
      record { few = a.0; fits = ltb-false input_limit (length s) b.0; plain = c.0; walked = a.1 ∙ b.1 ∙ c.1 }

  -- all that an accepted call shows of its columns, its input and its text buffer
  pub record Facts (s d : List ℕ) : Type 0 where
    pub few : ltb max_columns columns.count ≡ false
    pub fits : length s ≤ input_limit
    pub plain : any_dec_float (covered columns) ≡ false
    pub over : is_done (walk_row (covered columns) s) ≡ true
    pub room : length (row_texts L (pieces_of (walk_row (covered columns) s))) ≤ length d
    pub decided : row_decision L columns s d ≡ accept (pieces_of (walk_row (covered columns) s)) (used_of (walk_row (covered columns) s))

  pub facts : (s d : List ℕ) → (answer_with L columns s d).outcome ≡ accepted → Facts s d
  facts s d e =
      let t = tested accepted s d (λ n h. refused_not n []) e in
      let w = walked_accepted L (walk_row cs s) d (sym (ap (λ (x : Decision). (answer_of L x).outcome) t.walked) ∙ e) in
      record { few = t.few; fits = t.fits; plain = t.plain; over = w.0; room = w.1; decided = t.walked ∙ w.2 }

  -- a call at the same columns within the limit comes to its walk
  pub call_walked : ltb max_columns columns.count ≡ false → any_dec_float cs ≡ false → (t d : List ℕ) → length t ≤ input_limit
      → row_decision L columns t d ≡ walk_decision L (walk_row cs t) d
  unfolding row_decision body_decision
  call_walked few plain t d h = rw (few, le-ltb input_limit (length t) h, plain)

  -- ---- the three parts

  abbrev Alike : (s d t e : List ℕ) → Type 0
  Alike s d t e = SameAnswer (answer_with L columns t e) t (text_with L columns t e) (answer_with L columns s d) s (text_with L columns s d)

  -- an input with the same walk and the same first bytes, in a text buffer that is large enough
  pub same_walk : (s d t e : List ℕ) → Facts s d → length t ≤ input_limit → walk_row cs t ≡ walk_row cs s
      → take (used_of (walk_row cs s)) t ≡ take (used_of (walk_row cs s)) s → length (row_texts L (pieces_of (walk_row cs s))) ≤ length e → Alike s d t e
  same_walk s d t e f h w begins room =
      let w' = walk_row cs s in
      let one : row_decision L columns t e ≡ accept (pieces_of w') (used_of w') =
      call_walked f.few f.plain t e h ∙ ap (λ (x : Walk). walk_decision L x e) w ∙ walked_done L w' e f.over room in
      rw (one, f.decided) (answers_same L (pieces_of w') (used_of w') s t d e (row_placed cs s f.over) begins (row_used cs s f.over).1)

  used_is : (s d : List ℕ) → Facts s d → (answer_with L columns s d).used ≡ used_of (walk_row cs s)
  unfolding answer_of
  used_is s d f = ap (λ (x : Decision). (answer_of L x).used) f.decided

  pub texts_are : (s d : List ℕ) → Facts s d → texts_together (answer_with L columns s d).places ≡ length (row_texts L (pieces_of (walk_row cs s)))
  unfolding answer_of
  texts_are s d f = ap (λ (x : Decision). texts_together (answer_of L x).places) f.decided ∙ filled_together L (pieces_of (walk_row cs s))

  longer : all_carry_own_end cs ≡ true → (s d : List ℕ) → AcceptedRow (answer_with L) (text_with L) columns s d → Longer (answer_with L) (text_with L) columns s d
  longer own s d a t e h begins room =
      let f = facts s d a.accepts in
      let n = used_is s d f in
      let begins' : take (used_of (walk_row cs s)) t ≡ take (used_of (walk_row cs s)) s = rw n at begins in
      let one : 1 ≤ used_of (walk_row cs s) = rw n at a.one in
      same_walk s d t e f h (row_begins cs own s t a.two f.over one begins') begins' (omega (arith, texts_are s d f))

  shorter : all_carry_own_end cs ≡ true → (s d : List ℕ) → AcceptedRow (answer_with L) (text_with L) columns s d → Shorter (answer_with L) (text_with L) columns s d
  unfolding answer_of text_after
  shorter own s d a m e two less =
      let f = facts s d a.accepts in
      let less' : m < used_of (walk_row cs s) = rw (used_is s d f) at less in
      let b = row_used cs s f.over in
      let l = length-take-le m s (omega arith) in
      let r = walked_short L (walk_row cs (take m s)) e (row_shorter cs own s f.over m two less') in
      let one = call_walked f.few f.plain (take m s) e (omega (arith, f.fits)) ∙ r.2 in
      (r.0, r.1, ap (answer_of L) one, ap (λ (x : Decision). text_after L x e) one)

  alone : (s d : List ℕ) → (answer_with L columns s d).outcome ≡ accepted → Alone (answer_with L) (text_with L) columns s d
  alone s d a e room =
      let f = facts s d a in
      let n = used_is s d f in
      let k = used_of (walk_row cs s) in
      let b = row_used cs s f.over in
      subst⁻¹ (λ (i : ℕ). Alike s d (take i s) e) n
      (same_walk s d (take k s) e f (omega (arith, f.fits, length-take-le k s b.1)) (row_cuts cs s f.over) (take-take k k s (omega arith))
      (omega (arith, texts_are s d f)))

-- for every choice of the conversions
pub demand3_with : (L : Conversions) → Demand3 (answer_with L) (text_with L)
demand3_with L = record { longer = longer L; shorter = shorter L; alone = alone L }

-- Demand 3 of the row call, at every release
pub demand3 : (release : ℕ) → Demand3 (row_answer release) (row_text release)
demand3 release =
    at_release release Demand3 (demand3_with (conversions_of release))
    (record {
      longer = λ columns own s d a. absurd (refused_not 22 [] a.accepts);
      shorter = λ columns own s d a. absurd (refused_not 22 [] a.accepts);
      alone = λ columns s d e. absurd (refused_not 22 [] e);
    })
