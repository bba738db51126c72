use Rattle.wire_json.proofs.OneMessage.{one_line_message, sound_line_message}
use Rattle.wire_json.proofs.Uniqueness.{one_line_change, sound_line}
use Rattle.wire_json.proofs.laws.one_line.Goals as goal

pub returns-clause-one_change : goal.returns-clause-one_change
returns-clause-one_change c = one_line_change

pub returns-clause-sound_change : goal.returns-clause-sound_change
returns-clause-sound_change c = sound_line

pub returns-clause-one_message : goal.returns-clause-one_message
returns-clause-one_message c = one_line_message

pub returns-clause-sound_message : goal.returns-clause-sound_message
returns-clause-sound_message c = sound_line_message
