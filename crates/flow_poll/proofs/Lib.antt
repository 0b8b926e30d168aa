pub mod CompletesLater
pub mod DrivenFurther
pub mod EachGoes
pub mod RoundGoes
pub mod WaitsFurther
