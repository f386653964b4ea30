pub mod Ready
pub mod Keeping
pub mod Quantities
pub mod TimesTexts
pub mod TimesAsking
pub mod SinceAsking
