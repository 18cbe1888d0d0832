use Rattle.std.proofs.Common.{◌≡◌, drop, map}
use Rattle.clap.specs.Words.{app_of}
use Rattle.command_line.specs.Lines.{option_rule, with_rules}
use Rattle.command_line.specs.Rows.{row_of}
use Rattle.command_line.proofs.command.with_options.Given as goal

-- what is still to be added makes the command
abbrev pub invariant-loop-option : goal.invariant-loop-option
invariant-loop-option l =
    with_rules (app_of l.command) (map (λ o. option_rule (row_of o)) (drop l.option-index l.options))
    ≡ with_rules (app_of l.fn.start) (map (λ o. option_rule (row_of o)) l.options)
