-- `length_of` meets its contract.
use native.Mathlib.Omega.{arith}
use mathlib.Core.Path.{◌≡◌, sym, ap, ◌∙◌}
use Prim.Native.Nat.{◌+◌, ◌*◌}
use Rattle.std.specs.Prelude.{Ok}
use Rattle.rules.proofs.MapsLaws.{between-high}
use Rattle.framewrite.proofs.Answers.{text-within, refuses-13, refuses-16, gives-length}
use Rattle.framewrite.proofs.length_of.Goals as goal

pub returns-then-not-length_fits : goal.returns-then-not-length_fits
returns-then-not-length_fits c = refuses-13 c.args.others c.args.n c.args.text_len c.args.room _ (sym c.count_fits.ensures ∙ c.if-not-count_fits.false) (sym c.length_fits.ensures ∙ c.if-not-length_fits.true)

pub overflow_mul-len : goal.overflow_mul-len
overflow_mul-len c = omega (arith, between-high 2 8 _ (sym c.count_fits.ensures ∙ c.if-not-count_fits.false))

pub overflow_add-len : goal.overflow_add-len
overflow_add-len c = omega (arith, between-high 2 8 _ (sym c.count_fits.ensures ∙ c.if-not-count_fits.false))

pub overflow_add-len-2 : goal.overflow_add-len-2
overflow_add-len-2 c =
    omega (arith, between-high 2 8 _ (sym c.count_fits.ensures ∙ c.if-not-count_fits.false), text-within _ (sym c.length_fits.ensures ∙ c.if-not-length_fits.false))

pub returns-then-room-len : goal.returns-then-room-len
returns-then-room-len c =
    let a = c.args in
    refuses-16 a.others a.n a.text_len a.room _ (sym c.count_fits.ensures ∙ c.if-not-count_fits.false) (sym c.length_fits.ensures ∙ c.if-not-length_fits.false) (omega arith)

pub returns : goal.returns
returns c =
    let a = c.args in
    let len : a.others + 4 * a.n + a.text_len ≡ c.from.result + 4 * a.n + a.text_len = omega (arith, c.from.ensures) in
    ap (λ k. Ok k) (sym len)
    ∙ gives-length a.others a.n a.text_len a.room _ (sym c.count_fits.ensures ∙ c.if-not-count_fits.false) (sym c.length_fits.ensures ∙ c.if-not-length_fits.false) (omega arith)
