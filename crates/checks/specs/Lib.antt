pub mod JournalChecks
