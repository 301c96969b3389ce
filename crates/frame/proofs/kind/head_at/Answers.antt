-- `head_at` meets its contract.
use borrow.Author.Rules.{rules}
use borrow.Author.Tests.{tests}
use mathlib.Core.Bool.{not}
use mathlib.Core.Path.{ap, ◌∙◌}
use Prim.Native.Nat.{◌/◌}
use lib.ListN.{take}
use Rattle.std.specs.Prelude.{nat_eq}
use Rattle.std.proofs.lemmas.Iterator.{YieldsList-from_slice}
use Rattle.std.proofs.lemmas.Iterator.Search.{any_from_yields_List}
use Rattle.frame.proofs.Numbers.{some-zero, no-head, a-head}
use Rattle.frame.proofs.kind.head_at.Goals as goal

pub returns-then-any : goal.returns-then-any
returns-then-any c =
    let l = c.args.s.now in
    let p = c.args.at in
    let all = YieldsList-from_slice (take (c.number_at.result / 4) c.acks_at-ack.result) cc in
    let some = any_from_yields_List (λ y. nat_eq y 0) _ _ c.any.result c.any.ensures.ran all (λ x b q k. search (rules, tests)) in
    no-head l p (some-zero l p _ _ c.number_at.ensures c.acks_at-ack.ensures _ some ∙ ap not c.if-any.true)

pub returns : goal.returns
returns c =
    let l = c.args.s.now in
    let p = c.args.at in
    let e = c.number_at.ensures in
    let k = c.acks_at-ack.ensures in
    let all = YieldsList-from_slice (take (c.number_at.result / 4) c.acks_at-ack.result) cc in
    let some = any_from_yields_List (λ y. nat_eq y 0) _ _ c.any.result c.any.ensures.ran all (λ x b q k. search (rules, tests)) in
    a-head l p _ _ e k (some-zero l p _ _ e k _ some ∙ ap not c.if-any.false) _ _ c.number_at-2.ensures c.number_at-3.ensures
