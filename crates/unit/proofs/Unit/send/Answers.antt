-- The frame that is written is kept, and its message stored.
use mathlib.Core.Path.{refl, sym, ap, subst, ◌∙◌}
use Prim.Native.Nat.{◌≤◌}
use native.Mathlib.Omega.{arith}
use lib.ListN.{length}
use Rattle.std.specs.Result.{IsOk}
use Rattle.unit.proofs.Means.{sends-data}
use Rattle.unit.proofs.Shape.{shaped}
use Rattle.unit.proofs.Writing.{Sendable, sendable, own-done, own-written, own-size, own-fits, own-front, stored_from, sent-refused, sent-done}
use Rattle.unit.proofs.Unit.send.Goals as goal

pub returns-in-Err : goal.returns-in-Err
returns-in-Err c =
    let u = c.args.self in
    sends-data u (shaped u _ c.well_formed.0.1.1) _ _ _ _ (sent-refused u _ _ _ c.send.ensures _ c.in-Err.is)

pub unwrap-len-requires : goal.unwrap-len-requires
unwrap-len-requires c =
    let u = c.args.self in
    let passed : Sendable u.core (length c.args.text.now) (length c.args.out.now) = sendable _ u.acks _ _ _ (sym c.send.ensures ∙ c.in-Ok.is) in
    let most : u.core.n ≤ length u.core.req = omega (arith, passed.ranges.n-high, (shaped u _ c.well_formed.0.1.1).sized.req) in
    subst IsOk (sym (own-done _ _ _ most _ passed _ _ c.write_data.ensures)) refl

pub slice_bounds-keep-end : goal.slice_bounds-keep-end
slice_bounds-keep-end c =
    let u = c.args.self in
    let passed : Sendable u.core (length c.args.text.now) (length c.args.out.now) = sendable _ u.acks _ _ _ (sym c.send.ensures ∙ c.in-Ok.is) in
    let most : u.core.n ≤ length u.core.req = omega (arith, passed.ranges.n-high, (shaped u _ c.well_formed.0.1.1).sized.req) in
    own-fits _ _ _ most _ passed _ _ c.write_data.ensures _ c.unwrap-len.ensures

pub slice_bounds-keep-end-in-Ok : goal.slice_bounds-keep-end-in-Ok
slice_bounds-keep-end-in-Ok c =
    let u = c.args.self in
    let passed : Sendable u.core (length c.args.text.now) (length c.args.out.now) = sendable _ u.acks _ _ _ (sym c.send.ensures ∙ c.in-Ok.is) in
    let most : u.core.n ≤ length u.core.req = omega (arith, passed.ranges.n-high, (shaped u _ c.well_formed.0.1.1).sized.req) in
    own-size _ _ _ most _ passed _ _ c.write_data.ensures _ c.unwrap-len.ensures
    ∙ sym (ap length (own-front _ _ _ most _ passed _ _ c.write_data.ensures _ c.unwrap-len.ensures))

pub returns-in-Ok : goal.returns-in-Ok
returns-in-Ok c =
    let u = c.args.self in
    let passed : Sendable u.core (length c.args.text.now) (length c.args.out.now) = sendable _ u.acks _ _ _ (sym c.send.ensures ∙ c.in-Ok.is) in
    let most : u.core.n ≤ length u.core.req = omega (arith, passed.ranges.n-high, (shaped u _ c.well_formed.0.1.1).sized.req) in
    sends-data u (shaped u _ c.well_formed.0.1.1) _ _ _ _
    (sent-done u _ _ _ c.send.ensures _ c.in-Ok.is _ _ (own-front _ _ _ most _ passed _ _ c.write_data.ensures _ c.unwrap-len.ensures)
    (own-written _ _ _ most _ passed _ _ c.write_data.ensures) _ (own-size _ _ _ most _ passed _ _ c.write_data.ensures _ c.unwrap-len.ensures) _
    (stored_from u _ _ _ _ _ _ c.keep.ensures))
