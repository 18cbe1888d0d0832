-- Why a valid module has no output.
use Rattle.std.proofs.Common.{◌<◌, ap, subst, Err}
use Rattle.wasabi_app.specs.Making.{named_length}
use Rattle.wasabi_app.specs.Texts.{taken_text}
use Rattle.wasabi_app.proofs.Hooking.{unhooked_taken, unhooked_no_memory}
use Rattle.wasabi_app.proofs.making.hooked.Goals as goal

pub returns-in-Err-HookModuleTaken-clause-refused : goal.returns-in-Err-HookModuleTaken-clause-refused
returns-in-Err-HookModuleTaken-clause-refused g c =
    unhooked_taken c.args.subject.now.name.now c.args.subject.now.module.now (named_length c.args.subject.now.module.now c.args.hooks.now c.args.subject.now.names.now) c.args.bound
    c.refused.result (c.in-Err-HookModuleTaken.ensures.taken (ap Err c.in-Err-HookModuleTaken.field-0-is))
    (c.refused.ensures (taken_text c.args.subject.now.name.now) c.taken_line.ensures)

pub too_large-requires-clause-free : goal.too_large-requires-clause-free
too_large-requires-clause-free g c = λ _ _. (c.in-Err-TooLarge.ensures.large _ (ap Err c.in-Err-TooLarge.field-0-is)).0

pub too_large-requires-clause-is : goal.too_large-requires-clause-is
too_large-requires-clause-is g c = λ _ _. (c.in-Err-TooLarge.ensures.large _ (ap Err c.in-Err-TooLarge.field-0-is)).1

pub too_large-requires-clause-over : goal.too_large-requires-clause-over
too_large-requires-clause-over g c = λ _ _.
    subst (λ n. n < c.in-Err-TooLarge.length) c.bytes.ensures.is (c.in-Err-TooLarge.ensures.large _ (ap Err c.in-Err-TooLarge.field-0-is)).2

pub returns-in-Err-NoMemory-clause-refused : goal.returns-in-Err-NoMemory-clause-refused
returns-in-Err-NoMemory-clause-refused g c =
    unhooked_no_memory c.args.subject.now.name.now c.args.subject.now.module.now (named_length c.args.subject.now.module.now c.args.hooks.now c.args.subject.now.names.now) c.args.bound
