use Rattle.serde_json.specs.View.{view}
use Rattle.static_info.specs.Json.{info_data}
use Rattle.static_info.proofs.Texts.{info_plain, text_written, text_holds}
use Rattle.static_info.proofs.written.to_json.Goals as goal

pub returns-clause-text : goal.returns-clause-text
returns-clause-text c =
    let info = c.args.info.now in
    text_written c.to_vec.result (view c.in_ok-value_of.field-0) (info_data info) c.in_ok-value_of.ensures (info_plain info) c.to_vec.ensures.text

pub returns-clause-holds : goal.returns-clause-holds
returns-clause-holds c =
    text_holds c.to_vec.result (view c.in_ok-value_of.field-0) c.args.info.now c.requires c.in_ok-value_of.ensures c.to_vec.ensures.utf8 c.to_vec.ensures.reads_back
