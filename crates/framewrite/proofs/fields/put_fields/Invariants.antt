-- `put_fields` meets its contract. The invariant: writing the fields of the tags left gives the whole.
use Prim.Native.Nat.{◌+◌}
use Rattle.framewrite.proofs.Rest.{Ahead}
use Rattle.framewrite.proofs.fields.put_fields.Given as goal

abbrev pub invariant-loop-tag : goal.invariant-loop-tag
invariant-loop-tag l = Ahead l.m l.ack l.text l.initial.d l.d l.at (l.tag-index + 1)
