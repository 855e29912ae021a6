-- What a call that writes one text answers and leaves in the buffer, where that is too short for it and where it is not. Assumes nothing.
use Prim.Native.Nat.{ℕ, ◌≤◌, ◌<◌}
use mathlib.Core.List.{List, [], ◌∷◌}
use mathlib.Core.Path.{◌≡◌, refl, ap}
use borrow.Author.Tests.{lt-ltb, le-ltb}
use lib.ListN.{length}
use Rattle.refusal.specs.Refusal.{accepted}
use Rattle.buffer.specs.Buffer.{overwritten, Converted, TextTold, refused_text, text_answer, text_buffer}

module _ (x : Converted) (d : List ℕ) where
  pub no_room_answer : (n : ℕ) → n ≡ length x.text_bytes → length d < n → text_answer x d ≡ refused_text 9 (n ∷ [])
  unfolding text_answer
  no_room_answer n e h = rw (← e, lt-ltb (length d) n h)

  pub room_answer : (n r : ℕ) → n ≡ length x.text_bytes → r ≡ x.replaced → n ≤ length d
      → text_answer x d ≡ record { outcome = accepted; written = n; replaced = r }
  unfolding text_answer
  room_answer n r e k h = rw (← e, le-ltb (length d) n h, k)

module _ (t d : List ℕ) where
  pub no_room_buffer : (n : ℕ) → n ≡ length t → length d < n → text_buffer t d ≡ d
  unfolding text_buffer
  no_room_buffer n e h = rw (← e, lt-ltb (length d) n h)

  pub room_buffer : (n : ℕ) → n ≡ length t → n ≤ length d → text_buffer t d ≡ overwritten t d
  unfolding text_buffer
  room_buffer n e h = rw (← e, le-ltb (length d) n h)
