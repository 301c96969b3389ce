-- Up to index q m places are counted, and those from there on are still to be.
use mathlib.Core.Path.{◌≡◌}
use Prim.Native.Nat.{◌+◌, ◌-◌, ◌≤◌}
use lib.ListN.{length}
use Rattle.rules.specs.Maps.{listed}
use Rattle.lists.specs.Order.{is_of, only, entry}
use Rattle.lists.proofs.count_of.Given as goal

abbrev pub invariant-loop-q : goal.invariant-loop-q
invariant-loop-q l = (l.m ≤ l.q) × (l.m + length (only (is_of l.j) (listed l.q (l.end - l.q) (entry l.o))) ≡ length (only (is_of l.j) (listed l.start (l.end - l.start) (entry l.o))))
