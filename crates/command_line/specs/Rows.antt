-- The rows of the table of options in the code, in the form that the definitions use.
use Rattle.std.specs.Borrow.{Bor}
use Rattle.clap.specs.Words.{Text}
use Rattle.command_line.specs.declared.command.Takes.{Takes}
use Rattle.command_line.specs.declared.command.Takes.TheVariants.{Text as takes_text, TextOr, NumberTo}
use Rattle.command_line.specs.Lines.{Kind, any_text, text_or, number_to}

abbrev pub kind_of : Takes → Kind
kind_of takes_text = any_text
kind_of (TextOr default) = text_or default.now
kind_of (NumberTo most default) = number_to most default.now

abbrev pub row_of : Bor Text × Takes → Text × Kind
row_of (name, takes) = (name.now, kind_of takes)
