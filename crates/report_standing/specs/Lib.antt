pub mod RuleParts
