-- A node that has not begun.
use Rattle.std.specs.Prelude.{◌≡◌, None}
use Rattle.cd_step.specs.Parts.{Part, IsUnbegun, IsHeld}
use Rattle.cd_node.specs.Nodes.{HasNoTicket}
use Rattle.cd_node.specs.declared.control.PairControl.{PairControl}
use Rattle.cd_node.specs.declared.node.Node.{Node, Pair', Marked'}
use Rattle.cd_node.specs.declared.node.Node.TheVariants.{Word, Source, Sink}

pub record IsUnstarted (p : Part) : Type 0 where
  pub unbegun : IsUnbegun p
  pub no_ticket : HasNoTicket p
  pub held : IsHeld p

-- it is these two under this controller, and none of them is out
abbrev pub IsPairOf : PairControl → Node → Node → Node → Type 0
IsPairOf c a b (Word e) = ⊥
IsPairOf c a b (Source l) = ⊥
IsPairOf c a b (Sink l) = ⊥
IsPairOf c a b (Marked' m p b1) = ⊥
IsPairOf c a b (Pair' c1 out p a1 q b1) = (c1 ≡ c) × (out ≡ None) × (a1 ≡ a) × (b1 ≡ b)
