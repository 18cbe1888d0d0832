use Rattle.hook_select.proofs.Sets.{none_in}
use Rattle.hook_select.proofs.Hooks.is_empty.Goals as goal

pub returns : goal.returns
returns c =
    let has_none = c.has_none.ensures in
    let none = none_in c.args.self.now in
    (λ h. none.0 (has_none.0 h), λ h. has_none.1 (none.1 h))
