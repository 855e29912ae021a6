-- Texts with one code point a byte come out as well-formed UTF-8 (D86 of the Unicode Standard). Assumes nothing.
use Prim.Native.Nat.{ℕ, suc, ◌<◌}
use mathlib.Core.List.{List, [], ◌∷◌}
use mathlib.Core.Logic.{inl}
use native.Mathlib.Omega.{arith}
use lib.ListN.{get_or}
use Rattle.unicode_standard.specs.Unicode.{utf8, pieces_text, piece_text}
use Rattle.unicode_standard.specs.Laws.{WellFormed, AreBytes}
use Rattle.unicode_standard.proofs.Ranges.{is_scalar_lem}
use Rattle.unicode_standard.proofs.Forms.{nil_well_formed, cons_well_formed}
use Rattle.codepage.specs.CodePage.{byte_pieces, byte_text, code_point819, code_point037}
use Rattle.codepage.specs.Small.{code_point_small}

well_formed : (f : ℕ → ℕ) (s : List ℕ) → ((i : ℕ) → f (get_or s i 0) < 0x100) → WellFormed utf8 (byte_text f s)
unfolding byte_text byte_pieces pieces_text piece_text
well_formed f [] h = nil_well_formed utf8
well_formed f (b ∷ s) h = cons_well_formed utf8 (f b) (byte_text f s) (is_scalar_lem (f b) (inl (omega (arith, h 0)))) (well_formed f s (λ i. h (suc i)))

module _ (s : List ℕ) (h : AreBytes s) where
  pub latin1_well_formed : WellFormed utf8 (byte_text code_point819 s)
  latin1_well_formed = well_formed code_point819 s h

  pub ebcdic_well_formed : WellFormed utf8 (byte_text code_point037 s)
  ebcdic_well_formed = well_formed code_point037 s (λ i. code_point_small (get_or s i 0) (h i))
