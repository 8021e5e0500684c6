use Rattle.cd_meaning.proofs.TakeForm.{form_effects, form_ending, form_puts, whole_puts, whole_ends}
use Rattle.cd_meaning.proofs.take_form.Goals as goal

pub returns : goal.returns
returns c = record { does = form_effects; ends = form_ending; puts = form_puts; whole_puts = whole_puts; whole_ends = whole_ends }
