-- What the packed decimal call answers, and what it leaves in the text buffer: P5, H7, refusals 6, 7 and 9. Assumes nothing.
use Rattle.std.specs.Prelude.{ℕ, cond, List, [], ltb, eqb, length}
use Rattle.refusal.specs.Refusal.{most_bytes}
use Rattle.buffer.specs.Buffer.{unreplaced, TextTold, refused_text, text_answer, text_buffer}
use Rattle.packed.specs.Packed.{decimal_text}

-- For the bytes s and the text buffer d. Refusal 6: no bytes. Refusal 7: more than 128. Then the text, or refusal 9, as with every text.
-- P5: no precision is asked for.
unfoldable pub decimal_answer : ℕ → List ℕ → List ℕ → TextTold
decimal_answer scale s d =
    cond (eqb (length s) 0) (refused_text 6 []) (cond (ltb most_bytes (length s)) (refused_text 7 []) (text_answer (unreplaced (decimal_text scale s)) d))

unfoldable pub decimal_buffer : ℕ → List ℕ → List ℕ → List ℕ
decimal_buffer scale s d = cond (eqb (length s) 0) d (cond (ltb most_bytes (length s)) d (text_buffer (decimal_text scale s) d))
