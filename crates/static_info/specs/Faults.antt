-- Why no information is read from bytes, by why a step of the reading failed.
use Rattle.json_form.specs.declared.form.FormFault.{FormFault}
use Rattle.json_form.specs.declared.form.FormFault.TheVariants as form
use Rattle.json_form.specs.declared.text.TextFault.{TextFault}
use Rattle.json_form.specs.declared.text.TextFault.TheVariants as text
use Rattle.static_info.specs.declared.parsing.InfoFault.{InfoFault}
use Rattle.static_info.specs.declared.parsing.InfoFault.TheVariants.{NotJson, NotInfo, NoMemory}

abbrev pub text_info_fault : TextFault → InfoFault
text_info_fault text.NotJson = NotJson
text_info_fault text.NoMemory = NoMemory

abbrev pub form_info_fault : FormFault → InfoFault
form_info_fault form.Wrong = NotInfo
form_info_fault form.NoMemory = NoMemory
