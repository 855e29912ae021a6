pub mod ExtentLaws
pub mod ItemLaws
pub mod ReferLaws
pub mod NumberLaws
