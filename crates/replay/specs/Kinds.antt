-- The numbers of the calls, and of what call 12 sets.
use Rattle.std.specs.Prelude.{◌≡◌, ℕ, ◌<◌, Result, MatchResult}
use Rattle.replay.specs.declared.kinds.Call.{Call}
use Rattle.replay.specs.declared.kinds.Call.TheVariants.{Open, Send, Arrive, Request, Copy, Take, ToTake, FreePlaces, KeptNumbers, MissingOf, WaitingOf, IsSound, Set}
use Rattle.replay.specs.declared.kinds.Setting.{Setting}
use Rattle.replay.specs.declared.kinds.Setting.TheVariants.{Seq, Req, Heard, Buf, Al, Pal, Me, N, W, Cid, MessageSeq, MessageLength, MessageAck, Place}
use Rattle.replay.specs.declared.kinds.Unknown.{Unknown}

abbrev pub call_number : Call → ℕ
call_number Open = 0
call_number Send = 1
call_number Arrive = 2
call_number Request = 3
call_number Copy = 4
call_number Take = 5
call_number ToTake = 6
call_number FreePlaces = 7
call_number KeptNumbers = 8
call_number MissingOf = 9
call_number WaitingOf = 10
call_number IsSound = 11
call_number Set = 12

abbrev pub setting_number : Setting → ℕ
setting_number Seq = 0
setting_number Req = 1
setting_number Heard = 2
setting_number Buf = 3
setting_number Al = 4
setting_number Pal = 5
setting_number Me = 6
setting_number N = 7
setting_number W = 8
setting_number Cid = 9
setting_number MessageSeq = 10
setting_number MessageLength = 11
setting_number MessageAck = 12
setting_number Place = 13

-- the call with this number, or an error with a number that no call has
abbrev pub NamesCall : ℕ → Result Call Unknown → Type 0
NamesCall n r = MatchResult r (λ call. call_number call ≡ n) (λ e. (e.0 ≡ n) × (12 < n))

abbrev pub NamesSetting : ℕ → Result Setting Unknown → Type 0
NamesSetting n r = MatchResult r (λ what. setting_number what ≡ n) (λ e. (e.0 ≡ n) × (13 < n))
