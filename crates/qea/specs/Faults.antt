-- Each fault's number, the layer that found it, and its place. docs/FAULTS.md says when each applies.
use Rattle.std.specs.Prelude.{ℕ, Ok, Err, Result}
use Rattle.qea.specs.declared.fault.Layer.TheVariants.{Reading as reading, Table as table, Run as run}
use Rattle.qea.specs.declared.fault.RowKind.{RowKind}
use Rattle.qea.specs.declared.fault.RowKind.TheVariants.{State}
use Rattle.qea.specs.declared.fault.Place.TheVariants.{Text, Row, Position}
use Rattle.qea.specs.declared.fault.Description.{Description}
use Rattle.qea.specs.declared.fault.ReadingFault.{ReadingFault}
use Rattle.qea.specs.declared.fault.ReadingFault.TheVariants.{Misspelled, OutOfRange as OutsideText, OutOfOrder, WrongTrailer}
use Rattle.qea.specs.declared.fault.TableFault.{TableFault}
use Rattle.qea.specs.declared.fault.TableFault.TheVariants.{Reading, OutOfRange, TooMany, Absent, ReadsTooMuch, NoState}
use Rattle.qea.specs.declared.fault.RunFault.{RunFault}
use Rattle.qea.specs.declared.fault.RunFault.TheVariants.{Table, BadEvent, DomainFull, StoreFull, ActionOutOfRange, TooManyConfigurations, ReportTooShort}

-- number, line and byte
abbrev pub in_text : ℕ → ℕ → ℕ → Description
in_text n line byte = record { number = n; layer = reading; place = Text line byte }

-- number, kind of row and row
abbrev pub in_row : ℕ → RowKind → ℕ → Description
in_row n kind row = record { number = n; layer = table; place = Row kind row }

-- number and position
abbrev pub in_run : ℕ → ℕ → Description
in_run n position = record { number = n; layer = run; place = Position position }

abbrev pub reading_fault : ReadingFault → Description
reading_fault (Misspelled line byte) = in_text 1 line byte
reading_fault (OutsideText line byte) = in_text 2 line byte
reading_fault (OutOfOrder line) = in_text 3 line 0
reading_fault (WrongTrailer line byte) = in_text 4 line byte

abbrev pub table_fault : TableFault → Description
table_fault (Reading f) = reading_fault f
table_fault (OutOfRange kind row) = in_row 2 kind row
table_fault (TooMany kind row) = in_row 5 kind row
table_fault (Absent kind row) = in_row 6 kind row
table_fault (ReadsTooMuch kind row) = in_row 7 kind row
table_fault NoState = in_row 8 State 0

abbrev pub run_fault : RunFault → Description
run_fault (Table f) = table_fault f
run_fault (BadEvent position) = in_run 9 position
run_fault (DomainFull position) = in_run 10 position
run_fault StoreFull = in_run 11 0
run_fault (ActionOutOfRange transition) = in_run 12 transition
run_fault TooManyConfigurations = in_run 13 0
run_fault ReportTooShort = in_run 14 0

-- An answer with its fault described: what a caller is told, in numbers.
abbrev pub told : {A F : Type 0} → (F → Description) → Result A F → Result A Description
told describe (Ok x) = Ok x
told describe (Err f) = Err (describe f)
