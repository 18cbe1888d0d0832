use Rattle.std.proofs.Common.{◌∙◌, ap}
use Rattle.std.proofs.lemmas.Result.{err_from_is_err_and}
use Rattle.code_valid.specs.Checking.{put_types}
use Rattle.code_valid.specs.Control.{innermost_stack, with_innermost_stack}
use Rattle.code_valid.proofs.Parted.{put_opened, put_opens, put_same}
use Rattle.code_valid.proofs.Moves.{only_memory}
use Rattle.code_valid.proofs.blocks.OpenBlocks.push_block.Goals as goal

pub returns-in_err-push_block-clause-opened : goal.returns-in_err-push_block-clause-opened
returns-in_err-push_block-clause-opened c =
    let put = c.self.view_is ∙ c.in_ok-push_all.ensures ∙ ap (λ z. with_innermost_stack (put_types z (innermost_stack c.args.self.now)) c.args.self.now) c.as_slice.ensures in
    let p = err_from_is_err_and c.from_residual-in_err-push_block.result c.from_residual-in_err-push_block.ensures.1 in
    rw (p.1, p.2) (only_memory _ _ (λ h. put_opens c.self.inside.stack c.self.invariant c.args.starts c.args.self.now put c.args.kind c.args.results h) c.in_err-push_block.ensures.fault)

pub invariant_of-self-2 : goal.invariant_of-self-2
invariant_of-self-2 c =
    let put = c.self.view_is ∙ c.in_ok-push_all.ensures ∙ ap (λ z. with_innermost_stack (put_types z (innermost_stack c.args.self.now)) c.args.self.now) c.as_slice.ensures in
    (put_opened c.self.inside.stack c.self.invariant c.args.starts c.args.self.now put c.args.kind c.args.results c.push_block.new.self c.in_ok-push_block.ensures.ok).1

pub returns-clause-opened : goal.returns-clause-opened
returns-clause-opened c =
    let put = c.self.view_is ∙ c.in_ok-push_all.ensures ∙ ap (λ z. with_innermost_stack (put_types z (innermost_stack c.args.self.now)) c.args.self.now) c.as_slice.ensures in
    (put_opened c.self.inside.stack c.self.invariant c.args.starts c.args.self.now put c.args.kind c.args.results c.push_block.new.self c.in_ok-push_block.ensures.ok).0

pub returns-clause-same : goal.returns-clause-same
returns-clause-same c =
    let put = c.self.view_is ∙ c.in_ok-push_all.ensures ∙ ap (λ z. with_innermost_stack (put_types z (innermost_stack c.args.self.now)) c.args.self.now) c.as_slice.ensures in
    put_same c.self.inside.stack c.self.invariant c.args.starts c.args.self.now put
