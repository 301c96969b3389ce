-- Laws that the proofs of the functions cite, and what the functions mean in the rules.
pub mod CarryLaws
pub mod ChangeLaws
pub mod ConfirmLaws
pub mod EntryLaws
pub mod IndexLaws
pub mod JoinLaws
pub mod OnlyLaws
pub mod PlaceLaws
pub mod PreackLaws
pub mod RearrangeLaws
pub mod SettleLaws
pub mod ShowLaws
pub mod SlotLaws
pub mod TakenLaws
