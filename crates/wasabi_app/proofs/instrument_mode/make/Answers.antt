-- The output, its information and its line.
use Rattle.std.proofs.Common.{◌≡◌, Bor, List, ℕ, length, option_map, ap, ◌∙◌, rules}
use Rattle.static_info.specs.declared.Info.{Info}
use Rattle.static_info.specs.Json.{info_text}
use Rattle.wasabi_app.specs.Making.{named_length}
use Rattle.wasabi_app.specs.Texts.{wrote_text}
use Rattle.wasabi_app.proofs.Hooking.{unhooked_no_memory}
use Rattle.wasabi_app.proofs.instrument_mode.make.Goals as goal

pub returns-in-Ok-clause-ok : goal.returns-in-Ok-clause-ok
returns-in-Ok-clause-ok g c =
    let long : c.len.result ≡ length c.in_ok-bytes.field-0.bytes.items = search rules in
    let made = c.in_ok-bytes.ensures.made in
    record {
      free = c.in_ok-bytes.ensures.free;
      within = c.in_ok-bytes.ensures.within;
      written = made.written;
      informs = λ n. c.in-Ok.ensures.informs (λ e. n (ap (option_map (λ (t : Bor (List ℕ)). t.now)) e)) ∙ ap info_text made.information;
      says =
          c.in-Ok.ensures.says ∙ ap (λ n. wrote_text n (length c.in_ok-bytes.field-0.info.hooks)) long
          ∙ ap (λ (info : Info). wrote_text (length c.in_ok-bytes.field-0.bytes.items) (length info.hooks)) made.information;
    }

pub returns-in-Err-clause-refused : goal.returns-in-Err-clause-refused
returns-in-Err-clause-refused g c =
    unhooked_no_memory c.args.given.now.subject.now c.args.m.now (named_length c.args.m.now c.args.hooks.now c.args.names.now) c.args.given.now.bound
