-- An output with its names is no longer than the bound, or is refused.
use Rattle.std.proofs.Common.{◌≡◌, ◌++◌, length, ap, subst, ◌∙◌, arith, rules}
use Rattle.name_map.specs.Written.{name_section_bytes}
use Rattle.static_info.specs.declared.Info.{Info}
use Rattle.static_info.specs.Read.{info_remap}
use Rattle.wasabi_app.specs.KeptNames.{output_names}
use Rattle.wasabi_app.specs.Making.{named_length}
use Rattle.wasabi_app.specs.Texts.{too_large_text}
use Rattle.app_load.specs.Outcomes.{IsRefusal}
use Rattle.wasabi_app.proofs.Hooking.{unhooked_large, unhooked_no_memory}
use Rattle.wasabi_app.proofs.KeptNames.{few_mapped}
use Rattle.wasabi_app.proofs.making.with_names.Goals as goal

pub remap-requires : goal.remap-requires
remap-requires c =
    let few = few_mapped c.args.subject.now.module.now c.args.hooks.now c.requires.limits in
    omega (arith, few, ap (λ (i : Info). length i.hooks) c.requires.made.information)

pub put_names-requires-clause-remap : goal.put_names-requires-clause-remap
put_names-requires-clause-remap c = c.remap.ensures ∙ ap info_remap c.requires.made.information

pub returns-in_default-clause-refused : goal.returns-in_default-clause-refused
returns-in_default-clause-refused c =
    unhooked_no_memory c.args.subject.now.name.now c.args.subject.now.module.now (named_length c.args.subject.now.module.now c.args.hooks.now c.args.subject.now.names.now) c.args.bound

pub returns-then-length-bytes-clause-refused : goal.returns-then-length-bytes-clause-refused
returns-then-length-bytes-clause-refused c =
    let m = c.args.subject.now.module.now in
    let names = c.args.subject.now.names.now in
    let hooks = c.args.hooks.now in
    let long : c.len-length.result ≡ length c.put_names.new.out.items = search rules in
    let whole : c.len-length.result ≡ named_length m hooks names =
    long ∙ ap length (c.in-Ok.ensures ∙ ap (λ b. b ++ name_section_bytes (output_names m hooks names)) c.requires.made.written) in
    unhooked_large c.args.subject.now.name.now m (named_length m hooks names) c.args.bound c.refused.result c.requires.free
    (omega (arith, whole, c.bytes.ensures.is, c.if-length-bytes.true))
    (subst (λ n. IsRefusal 9 (too_large_text n) c.refused.result) whole (c.refused.ensures (too_large_text c.len-length.result) c.too_large_line.ensures))

pub returns-clause-within : goal.returns-clause-within
returns-clause-within c =
    let m = c.args.subject.now.module.now in
    let names = c.args.subject.now.names.now in
    let hooks = c.args.hooks.now in
    let long : c.len-length.result ≡ length c.put_names.new.out.items = search rules in
    let whole : c.len-length.result ≡ named_length m hooks names =
    long ∙ ap length (c.in-Ok.ensures ∙ ap (λ b. b ++ name_section_bytes (output_names m hooks names)) c.requires.made.written) in
    omega (arith, whole, c.bytes.ensures.is, c.if-length-bytes.false)
