-- A token is refused exactly where no script goes on with it.
use Rattle.std.proofs.Common.{◌≡◌, ◌↔◌, List, [], ◌∷◌, ◌++◌, Option, Some, None, refl, ap, sym, ◌∙◌}
use Rattle.std.specs.List.{fold}
use Rattle.std.proofs.lemmas.List.Sums.{fold-append}
use Rattle.cd_elem.specs.declared.script.Stmt.{Stmt}
use Rattle.cd_elem.specs.declared.token.Token.{Token}
use Rattle.cd_grammar.specs.Grammar as g
use Rattle.cd_parser.specs.declared.state.ParserState.{ParserState}
use Rattle.cd_parser.specs.Machine.{next, state_behind, start, done}
use Rattle.cd_parser.proofs.Complete.{over_script}
use Rattle.cd_parser.proofs.CanFinish.{finishes}
use Rattle.cd_parser.proofs.Sound.{is_script}

-- what the machine takes is the front of a script
pub front : (ts : List Token) (s : ParserState) → state_behind ts ≡ Some s → g.IsFront ts
front ts s e =
    let f = finishes s in
    record {
      more = f.more;
      tree = f.tree;
      script = is_script (ts ++ f.more) f.tree (fold-append next (Some start) ts f.more ∙ ap (λ o. fold next o f.more) e ∙ f.ends);
    }

-- a script leads to its own tree
pub only : (ts : List Token) (tree : List Stmt) → g.IsScript ts tree → state_behind ts ≡ Some (done tree)
only ts tree i = ap state_behind (sym i.spelled) ∙ over_script i.derivation ∙ ap (λ r. Some (done r)) i.stands_for

stuck : (ts : List Token) → fold next None ts ≡ None
stuck [] = refl
stuck (t ∷ ts) = stuck ts

pub apart : {A : Type 0} {x : A} → None ≡ Some x → ⊥
apart e = cc

-- what the machine refuses is the front of no script
pub no_front : (ts : List Token) → state_behind ts ≡ None → g.IsFront ts → ⊥
no_front ts e f =
    let a = only (ts ++ f.more) f.tree f.script in
    let b = fold-append next (Some start) ts f.more in
    let c = ap (λ o. fold next o f.more) e in
    let d = stuck f.more in
    apart (sym d ∙ sym c ∙ sym b ∙ a)

-- and nothing else is refused
no_front-refused : (ts : List Token) (o : Option ParserState) → state_behind ts ≡ o → ¬ g.IsFront ts → state_behind ts ≡ None
no_front-refused ts None e n = e
no_front-refused ts (Some s) e n = absurd (n (front ts s e))

pub refused : (ts : List Token) → (state_behind ts ≡ None) ↔ (¬ g.IsFront ts)
refused ts = (no_front ts, no_front-refused ts _ refl)

pub scripts : (ts : List Token) (tree : List Stmt) → (state_behind ts ≡ Some (done tree)) ↔ g.IsScript ts tree
scripts ts tree = (is_script ts tree, only ts tree)

-- a script stands for one tree
pub only_tree : (ts : List Token) (tree other : List Stmt) → g.IsScript ts tree → g.IsScript ts other → tree ≡ other
only_tree ts tree other i j = ap statements_of (sym (only ts tree i) ∙ only ts other j) where
  statements_of : Option ParserState → List Stmt
  statements_of None = []
  statements_of (Some s) = s.statements
