-- Why a report is not written to its end, by why a line was not printed.
use Rattle.outside_io.specs.declared.outside.SinkFault.{SinkFault}
use Rattle.outside_io.specs.declared.outside.SinkFault.TheVariants as sink
use Rattle.report.specs.declared.write.ReportFault.{ReportFault}
use Rattle.report.specs.declared.write.ReportFault.TheVariants as report

abbrev pub report_fault_of : SinkFault → ReportFault
report_fault_of sink.Failed = report.SinkFailed
report_fault_of sink.NoMemory = report.NoMemory
