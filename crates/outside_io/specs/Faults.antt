-- Which fault an error of the system is, and how the counts of faults rise on the machine.
use Rattle.std.specs.Prelude.{ℕ, None, Result, Ok, Err}
use Rattle.std.specs.declared.io.ErrorKind.{ErrorKind}
use Rattle.std.specs.declared.io.ErrorKind.TheVariants.{NotFound, OutOfMemory}
use Rattle.outside_io.specs.declared.outside.ReadFault.{ReadFault}
use Rattle.outside_io.specs.declared.outside.WriteFault.{WriteFault}
use Rattle.outside_io.specs.declared.outside.SinkFault.{SinkFault}
use Rattle.outside_io.specs.declared.outside.ReadFault.TheVariants as read
use Rattle.outside_io.specs.declared.outside.WriteFault.TheVariants as write
use Rattle.outside_io.specs.declared.outside.SinkFault.TheVariants as sink
use Rattle.outside_io.specs.Outside.{raised_count, ShelfState, PrintState}

-- the fault of a read that met an error of this kind
abbrev pub read_fault_of : ErrorKind → ReadFault
read_fault_of NotFound = read.Missing
read_fault_of OutOfMemory = read.NoMemory
read_fault_of _ = read.Failed

-- the fault of a write that met an error of this kind
abbrev pub write_fault_of : ErrorKind → WriteFault
write_fault_of OutOfMemory = write.NoMemory
write_fault_of _ = write.Failed

-- the fault of a print that met an error of this kind
abbrev pub sink_fault_of : ErrorKind → SinkFault
sink_fault_of OutOfMemory = sink.NoMemory
sink_fault_of _ = sink.Failed

-- the count of faults after a read with this answer: each error except `NoMemory` is counted
abbrev pub after_read : {T : Type 0} → Result T ReadFault → ℕ → ℕ
after_read (Ok _) count = count
after_read (Err read.NoMemory) count = count
after_read (Err _) count = raised_count count

-- the count of faults after a write with this answer
abbrev pub after_write : {T : Type 0} → Result T WriteFault → ℕ → ℕ
after_write (Ok _) count = count
after_write (Err write.NoMemory) count = count
after_write (Err write.Failed) count = raised_count count

-- the count of faults after a print with this answer
abbrev pub after_put : {T : Type 0} → Result T SinkFault → ℕ → ℕ
after_put (Ok _) count = count
after_put (Err sink.NoMemory) count = count
after_put (Err sink.Failed) count = raised_count count

-- what contracts see of the files of the machine, with these counts: the contents are not known
abbrev pub seen_files : (reads writes read_faults write_faults : ℕ) → ShelfState
seen_files reads writes read_faults write_faults =
    record { contents = None; reads = reads; writes = writes; read_faults = λ name. read_faults; write_faults = write_faults }

-- what contracts see of standard output, with these counts: what was printed is not known
abbrev pub seen_output : (prints faults : ℕ) → PrintState
seen_output prints faults = record { text = None; prints = prints; faults = faults }
