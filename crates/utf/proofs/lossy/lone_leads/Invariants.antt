use Prim.Native.Nat.{ℕ, ◌+◌, ◌≤◌, ◌<◌}
use mathlib.Core.Bool.{false}
use mathlib.Core.Path.{◌≡◌}
use lib.ListN.{drop, get_or}
use Rattle.unicode_standard.specs.Unicode.{within, trail}
use Rattle.utf.specs.Lossy.{leads}
use Rattle.utf.proofs.lossy.lone_leads.Given as goal

abbrev pub invariant-loop-b : goal.invariant-loop-b
invariant-loop-b l = (l.k ≤ l.b-index) × (l.k + leads (drop l.b-index l.s) ≡ leads l.s) × (l.trail ≡ false → (j : ℕ) → j < l.b-index → within (get_or l.s j 0) trail ≡ false)
