use native.Mathlib.Omega.{arith}
use Rattle.triplets.proofs.ReadingLaws.{ends, next_none, next_some}
use Rattle.triplets.proofs.StepLaws.{inner_none, inner_column, inner_empty, inner_other}
use Rattle.triplets.proofs.inner_step.Goals as goal

pub returns-in_default : goal.returns-in_default
returns-in_default c =
    let a = c.args in
    let s = a.«data».now in
    inner_none s a.at a.end c.requires.0 c.requires.1 (next_none 3 s a.at a.end c.next_triplet.ensures.value c.in_default.is)

pub returns-in-112 : goal.returns-in-112
returns-in-112 c =
    let a = c.args in
    let s = a.«data».now in
    let f = next_some 3 s a.at a.end c.next_triplet.ensures.value c.requires.0 c.requires.1 c.in-Some.is in
    let h = c.if-start-after.true in
    ((h, ends f), inner_column s a.at a.end _ _ f c.in-112.is h)

pub returns-in_default-kind : goal.returns-in_default-kind
returns-in_default-kind c =
    let a = c.args in
    let s = a.«data».now in
    let f = next_some 3 s a.at a.end c.next_triplet.ensures.value c.requires.0 c.requires.1 c.in-Some.is in
    inner_empty s a.at a.end _ _ f (omega (arith, f.low, c.if-start-after.false))

pub returns-in_default-kind-2 : goal.returns-in_default-kind-2
returns-in_default-kind-2 c =
    let a = c.args in
    let s = a.«data».now in
    let f = next_some 3 s a.at a.end c.next_triplet.ensures.value c.requires.0 c.requires.1 c.in-Some.is in
    inner_other s a.at a.end _ _ f (λ h. omega arith)
