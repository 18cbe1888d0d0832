use Rattle.std.proofs.Common.{◌≡◌, ◌^◌, ◌≤◌, All, map}
use Rattle.analyses.specs.Tools.{ToolState}
use Rattle.app_tests.proofs.feeding.fed_tally.Given as goal

abbrev pub invariant-loop : goal.invariant-loop
invariant-loop g l = record {
  module_is : l.session.module ≡ l.fn.session.module;
  room : All (λ (t : ToolState). t.event_count ≤ 2 ^ 63) (map (λ b. (goal.Analysis-dyn g (b.vtable, b.value)).state b.value) l.tools.items);
  events : l.tally.events ≡ 0;
  strays : l.tally.strays ≡ 0;
}
