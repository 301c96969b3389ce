-- Frames of a run: what a unit sends is lawful, so its frame says it; a request says no message.
use mathlib.Core.List.{List}
use mathlib.Core.Option.{Option}
use mathlib.Core.Path.{◌≡◌, sym, ap, subst, ◌∙◌}
use Prim.Native.Nat.{ℕ, ◌+◌, ◌*◌, ◌≤◌, ◌<◌}
use native.Mathlib.Omega.{arith}
use native.Mathlib.Nat.{mul-le-mul}
use lib.ListN.{length}
use Rattle.rules.specs.Maps.{listed}
use Rattle.rules.specs.Message.{Request, Said, message, request, last, kind_of, as_request, read_as, or_else, encode, decode}
use Rattle.rules.specs.Lawful.{Bytes, LawfulMessage}
use Rattle.rules.specs.State.{State, free}
use Rattle.rules.specs.Steps.{outgoing}
use Rattle.rules.proofs.MapsLaws.{length-listed, get_or-listed}
use Rattle.rules.proofs.BytesLaws.{each-intro}
use Rattle.rules.proofs.MessageLaws.{request-no-message, read}
use Rattle.group.specs.Runs.{Index}
use Rattle.group.proofs.Course.{Course}
use Rattle.group.proofs.Good.{Fine}

pub request-fine : (c : Course) (top : ℕ → ℕ) (r : Request) → Fine c top (encode (request r))
unfolding decode
request-fine c top r p e =
    let second = ap (λ (o : Option Said). or_else o (read_as 2 as_request (encode (request r)))) (request-no-message r) in
    let kind : ◌≡◌ {A = ℕ} 2 1 = ap kind_of (read 2 as_request (encode (request r)) (message p) (sym second ∙ e)).same in
    absurd (omega arith)

-- where the unit's numbers are in their ranges
pub outgoing-lawful : (s : State) (d : List ℕ) → 2 ≤ s.n → s.n ≤ 8 → s.w ≤ 4 → s.cid ≤ last → s.me < 256 → 1 ≤ s.seq → s.seq < last
    → ((k : ℕ) → Index s.n k → (1 ≤ s.req k) × (s.req k ≤ last)) → length d ≤ 48 → Bytes d → LawfulMessage (outgoing s d)
unfolding outgoing free
outgoing-lawful s d two few narrow cid me low high next short bytes =
    record {
      cid = cid;
      src = me;
      seq_least = low;
      seq_greatest = high;
      ack = record {
        least = omega (arith, length-listed 1 s.n s.req);
        greatest = omega (arith, length-listed 1 s.n s.req);
        each = each-intro _ (listed 1 s.n s.req) (λ i h.
            let b : i < s.n = omega (arith, length-listed 1 s.n s.req) in
            subst (λ x. (1 ≤ x) × (x ≤ last)) (sym (get_or-listed 1 s.n s.req i b)) (next (1 + i) (omega arith)));
      };
      buf = let h : 4 * s.w * s.n ≤ 16 * 8 = mul-le-mul {n₁ = 4 * s.w} {n₂ = 16} (omega arith) few in omega arith;
      short = short;
      text = bytes;
    }
