-- The texts of a walk, and the buffer that they need. Assumes nothing.
use Rattle.std.specs.Prelude.{Some, None}
use Prim.Native.Nat.{ℕ, ◌≤◌, ◌<◌}
use mathlib.Core.Path.{◌≡◌, refl}
use mathlib.Core.Bool.{Bool, true, false, cond}
use mathlib.Core.List.{List}
use lib.ListN.{length}
use lib.Dec.{ltb}
use borrow.Author.Tests.{lt-ltb, le-ltb, ltb-true, ltb-false}
use Rattle.rules.specs.Walk.{Walk, done, short}
use Rattle.rules.specs.Row.{row_texts, row_replaced}
use Rattle.rules.specs.Conversions.{conversions_of}
use Rattle.rules.proofs.Walks.{pieces_of}
use Rattle.piece.specs.Texts.{texts_of, replaced_of, needed_beyond}

pub texts_are : (release : ℕ) (w : Walk) → texts_of release w ≡ row_texts (conversions_of release) (pieces_of w)
unfolding row_texts
texts_are release (done ps n) = refl
texts_are release (short e a) = refl

pub replaced_are : (release : ℕ) (w : Walk) → replaced_of release w ≡ row_replaced (conversions_of release) (pieces_of w)
unfolding row_replaced
replaced_are release (done ps n) = refl
replaced_are release (short e a) = refl

-- the texts t and a buffer of n bytes
pub needed_none : (n k : ℕ) (t : List ℕ) → k ≡ length t → k ≤ n → None ≡ needed_beyond n t
needed_none n k t e h = rw (← e, le-ltb n k h)

pub needed_some : (n k : ℕ) (t : List ℕ) → k ≡ length t → n < k → Some k ≡ needed_beyond n t
needed_some n k t e h = rw (← e, lt-ltb n k h)

pub needed_more : (n k : ℕ) (t : List ℕ) → Some k ≡ needed_beyond n t → (n < length t) × (k ≡ length t)
needed_more n k t e = go (ltb n (length t)) refl e
  where
    go : (b : Bool) → ltb n (length t) ≡ b → Some k ≡ cond b (Some (length t)) None → (n < length t) × (k ≡ length t)
    go true q z = (ltb-true n (length t) q, cc)
    go false q z = absurd (cc)

pub needed_fits : (n : ℕ) (t : List ℕ) → None ≡ needed_beyond n t → length t ≤ n
needed_fits n t e = go (ltb n (length t)) refl e
  where
    go : (b : Bool) → ltb n (length t) ≡ b → None ≡ cond b (Some (length t)) None → length t ≤ n
    go true q z = absurd (cc)
    go false q z = ltb-false n (length t) q
