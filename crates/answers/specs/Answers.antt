-- The number of each refusal (01, "Answer numbers"), and what a call gives by its checks.
use Rattle.std.specs.Prelude.{codes, List, [], ◌∷◌, ℕ, ◌-◌, get_or, Result, Ok, Err}
use Rattle.rules.specs.Calls.{Check, decide}
use Rattle.answers.specs.declared.Refusal.{Refusal}
use Rattle.answers.specs.declared.Refusal.TheVariants.{Unsound, CannotOpen, NotAFrame, OtherGroup, NoSuchUnit, OwnFrame, Impossible, AcceptedBefore, EarlierMissing, NamesMissing, AckFell, NoPlace, TooLong, NoNumberLeft, WindowShut, OutputTooShort, ForAnother, Nothing}

abbrev pub number_of : Refusal → ℕ
number_of Unsound = 1
number_of CannotOpen = 2
number_of NotAFrame = 3
number_of OtherGroup = 4
number_of NoSuchUnit = 5
number_of OwnFrame = 6
number_of Impossible = 7
number_of AcceptedBefore = 8
number_of EarlierMissing = 9
number_of NamesMissing = 10
number_of AckFell = 11
number_of NoPlace = 12
number_of TooLong = 13
number_of NoNumberLeft = 14
number_of WindowShut = 15
number_of OutputTooShort = 16
number_of ForAnother = 17
number_of Nothing = 18

-- what a refusal says when it is printed
abbrev pub text_of : Refusal → List ℕ
text_of Unsound = codes "the unit is closed or not sound"
text_of CannotOpen = codes "opening outside the ranges"
text_of NotAFrame = codes "not a frame"
text_of OtherGroup = codes "of another group"
text_of NoSuchUnit = codes "no such unit, or a wrong count of ACK"
text_of OwnFrame = codes "the unit's own frame"
text_of Impossible = codes "a number that cannot be"
text_of AcceptedBefore = codes "accepted before"
text_of EarlierMissing = codes "an earlier number of its sender is missing"
text_of NamesMissing = codes "it names a message that is missing here"
text_of AckFell = codes "an ACK below one heard before"
text_of NoPlace = codes "the sender has no free place"
text_of TooLong = codes "data over 48 bytes"
text_of NoNumberLeft = codes "no number is left to send"
text_of WindowShut = codes "window shut"
text_of OutputTooShort = codes "lent output too short"
text_of ForAnother = codes "request for another unit"
text_of Nothing = codes "nothing missing, to resend, kept or to take"

-- the refusals in the order of their numbers
abbrev pub refusals : List Refusal
refusals =
    Unsound
    ∷ CannotOpen
    ∷ NotAFrame
    ∷ OtherGroup
    ∷ NoSuchUnit
    ∷ OwnFrame
    ∷ Impossible
    ∷ AcceptedBefore
    ∷ EarlierMissing
    ∷ NamesMissing
    ∷ AckFell
    ∷ NoPlace
    ∷ TooLong
    ∷ NoNumberLeft
    ∷ WindowShut
    ∷ OutputTooShort
    ∷ ForAnother
    ∷ Nothing
    ∷ []

-- the refusal of a number from 1 to 18
abbrev pub refusal_of : ℕ → Refusal
refusal_of a = get_or refusals (a - 1) Nothing

-- what a call gives: an A, or why it refuses
abbrev pub Answered : Type 0 → Type 0
Answered A = Result A Refusal

-- its answer number: 0 where it is done
abbrev pub answer_of : {A : Type 0} → Answered A → ℕ
answer_of (Ok x) = 0
answer_of (Err r) = number_of r

-- the first check that holds refuses with its number; where none holds, the call gives x
abbrev pub judged : {A : Type 0} → List Check → A → Answered A
judged checks x = decide checks (λ a. Err (refusal_of a)) (Ok x)
