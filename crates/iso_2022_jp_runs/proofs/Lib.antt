pub mod IsoRuns
