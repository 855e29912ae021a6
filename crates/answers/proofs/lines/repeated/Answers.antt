use Rattle.std.proofs.Common.{rules, ◌≡◌, ℕ, ◌-◌, ◌∙◌, ap, length}
use native.Mathlib.Omega.{arith}
use lib.ListN.{take, replicate}
use Rattle.answers.proofs.Hex.{read_pair, first_bytes}
use Rattle.answers.proofs.lines.repeated.Goals as goal

pub returns-clause-bytes : goal.returns-clause-bytes
returns-clause-bytes c =
    let n = c.in_ok-n.n in
    let b = c.in_ok-b.b in
    let out = c.args.out.now in
    let whole : n ≡ n - 0 = omega arith in
    let filled : c.fill.new.self ≡ replicate (length (take (n - 0) out)) b = c.fill.ensures.after (λ y e. e) ∙ ap (λ (k : ℕ). replicate (length (take k out)) b) whole in
    (b, n, read_pair _ b (omega arith) (search rules), search rules, first_bytes n b out _ _ (omega arith) filled)
