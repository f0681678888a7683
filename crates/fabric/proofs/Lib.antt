pub mod Means
pub mod CardLaws
pub mod SwapLaws
pub mod Sides
pub mod JoinLaws
pub mod Relays
pub mod BankLaws
pub mod PlanLaws
