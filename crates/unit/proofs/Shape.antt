-- The arrays of a unit that is handed in are as long as they are declared.
use borrow.Author.Rules.{rules}
use denote.Shadow.{shadow}
use denote.RattleType.{Valss, owns}
use denote.Struct.Declared.{fields}
use Rattle.steps.specs.Means.{Shaped}
use Rattle.unit.specs.declared.Unit.{Unit}
use Rattle.unit.specs.contracts.Unit.{the_type}

-- `good` is what the type says of u
pub shaped : (u : Unit) (v : Valss (fields the_type)) → shadow (owns (fields the_type) (the_type.to u) v) → Shaped u.core u.acks u.bytes u.frames
shaped u v good =
    record {
      sized = record {
        req = search rules;
        heard = search rules;
        buf = search rules;
        seqs = search rules;
        lens = search rules;
        list = let order = good.0.1.1.1.1.1.1.1.1.1.1.1.1.1 in search rules;
        ack_room = search rules;
        text_room = search rules;
      };
      kept = search rules;
      frame_room = search rules;
    }
