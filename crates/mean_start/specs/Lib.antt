pub mod Small
pub mod Firsts
pub mod Linkages
pub mod Noted
pub mod Making
pub mod FaultsAt
