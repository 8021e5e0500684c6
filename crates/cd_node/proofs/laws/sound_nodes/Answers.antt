use Rattle.cd_node.proofs.Trees.{node_sound, well_held, room_is}
use Rattle.cd_node.proofs.laws.sound_nodes.Goals as goal

pub returns-clause-sound : goal.returns-clause-sound
returns-clause-sound c = node_sound

pub returns-clause-held : goal.returns-clause-held
returns-clause-held c = well_held

pub returns-clause-room : goal.returns-clause-room
returns-clause-room c = room_is
