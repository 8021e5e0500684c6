-- The reader behind one more token.
use Rattle.std.proofs.Common.{◌≡◌, ℕ, Bool, true, false, ◌+◌, ◌<◌, List, [], ◌∷◌, ◌++◌, Option, Some, None, Ok, Err, take, drop, length, get_or, refl, ap, sym, ◌∙◌, arith, subst, below_more, inl, inr, add-one, ◌≤◌}
use Rattle.std.specs.Result.{IsErrAnd}
use Rattle.std.proofs.Math.Seq.{take-suc, drop-cons, take-length}
use Rattle.std.proofs.lemmas.List.{take-map, map-append, get_or-map, length-map, length-take-le, take-append-drop, drop_all}
use Rattle.std.proofs.lemmas.Bool.{cases_lt}
use Rattle.std.proofs.lemmas.List.Sums.{fold-append}
use Rattle.std.proofs.lemmas.Option.{slice_get-get_or}
use Rattle.cd_elem.specs.declared.script.Stmt.{Stmt}
use Rattle.cd_elem.specs.declared.token.Token.{Token}
use Rattle.cd_elem.specs.declared.token.Lexeme.{Lexeme}
use Rattle.cd_parser.specs.declared.state.ParserState.{ParserState}
use Rattle.cd_parser.specs.declared.state.Position.{Position}
use Rattle.cd_parser.specs.declared.state.Position.TheVariants as position
use Rattle.cd_script.specs.declared.reader.Reader.{Reader}
use Rattle.cd_script.specs.declared.refusal.ScriptRefusal.{ScriptRefusal}
use Rattle.cd_script.specs.declared.refusal.ScriptRefusal.TheVariants.{Syntax, Limit, NoMemory}
use Rattle.cd_grammar.specs.Grammar.{IsScript}
use Rattle.cd_parser.specs.Machine.{next, state_behind, start, step}
use Rattle.cd_grammar.specs.Limits.{limit_of, limit_behind, limit_at, limit_here, IsWithinLimits, brackets_with, bounds_behind, open_brackets, bounds_after, every_number}
use Rattle.cd_grammar.specs.Refusals.{tokens, PassesTo}
use Rattle.cd_script.specs.Answers.{Answer, AnswersTokens, AnswersOnly}
use Rattle.cd_script.specs.Reader.{IsBehind, Advances, ReadsToken, bounds_of, ending, ending_at}
use Rattle.cd_parser.proofs.Sound.{is_script}
use Rattle.cd_parser.proofs.Fronts.{front, only, no_front, apart}

abbrev place_of : Option ParserState → Position
place_of None = position.Sealing []
place_of (Some s) = s.position

abbrev statements_of : Option ParserState → List Stmt
statements_of None = []
statements_of (Some s) = s.statements

pub begins : (ls : List Lexeme) (r : Reader) → r.state ≡ start → r.opened ≡ 0 → bounds_of r.bounds ≡ every_number → IsBehind ls 0 r
begins ls r e f g = record { state_behind = ap Some (sym e); brackets = f; bounds = g; limits = λ j h. absurd (omega (arith, h)) }

module _ (ls : List Lexeme) (i : ℕ) (l : Lexeme) (h : i < length ls) (e : l ≡ get_or ls i l) where
  tokens-more : tokens (take (i + 1) ls) ≡ tokens (take i ls) ++ l.token ∷ []
  tokens-more = rw (add-one, take-suc ls i l, map-append, ← e) refl

  front-tokens : (n : ℕ) → take n (tokens ls) ≡ tokens (take n ls)
  front-tokens n = take-map (λ l. l.token) n ls

  limit-here : limit_at (tokens ls) i ≡ limit_behind (tokens (take i ls)) l.token
  limit-here =
      let k : i < length (tokens ls) = simp length-map h in
      ap (limit_here (take i (tokens ls))) (drop-cons (tokens ls) i l.token k)
      ∙ ap (λ t. limit_behind (take i (tokens ls)) t) (get_or-map (λ l. l.token) ls i l l.token h ∙ ap (λ l. l.token) (sym e))
      ∙ ap (λ ts. limit_behind ts l.token) (front-tokens i)

  long : length (tokens (take i ls)) ≡ i
  long = length-map (take i ls) (λ l. l.token) ∙ length-take-le i ls (omega arith)

  module _ (r : Reader) (b : IsBehind ls i r) where
    -- the limit that the reader finds
    limit-found : limit_of i r.opened (bounds_of r.bounds) l.token ≡ limit_at (tokens ls) i
    limit-found =
        ap (λ n. limit_of n r.opened (bounds_of r.bounds) l.token) (sym long)
        ∙ ap (λ n. limit_of (length (tokens (take i ls))) n (bounds_of r.bounds) l.token) b.brackets
        ∙ ap (λ n. limit_of (length (tokens (take i ls))) (open_brackets (tokens (take i ls))) n l.token) b.bounds
        ∙ sym limit-here

    run-more : state_behind (take (i + 1) (tokens ls)) ≡ step r.state l.token
    run-more =
        ap state_behind (front-tokens (i + 1) ∙ tokens-more)
        ∙ fold-append next (Some start) (tokens (take i ls)) (l.token ∷ [])
        ∙ ap (λ o. next o l.token) b.state_behind

    passes : PassesTo (tokens ls) i
    passes = record { front = front _ r.state (ap state_behind (front-tokens i) ∙ b.state_behind); limits = b.limits }

    pub advances : (new : Reader) → Advances r i l.token new → IsBehind ls (i + 1) new
    advances new a = record {
      state_behind = ap state_behind (sym (front-tokens (i + 1))) ∙ run-more ∙ a.steps;
      brackets = a.brackets ∙ ap (λ n. brackets_with n l.token) b.brackets
          ∙ sym (ap open_brackets tokens-more ∙ fold-append brackets_with 0 (tokens (take i ls)) (l.token ∷ []));
      bounds = a.bounds ∙ sym (ap bounds_after tokens-more ∙ fold-append (λ _ t. bounds_behind t) every_number (tokens (take i ls)) (l.token ∷ []));
      limits = below_more _ _ b.limits (sym limit-found ∙ a.limit);
    }

    pub refuses : (whole : Bool) (end : ℕ) (x : ScriptRefusal) → ReadsToken r i l (Err x) → AnswersTokens ls whole end (Err x)
    refuses whole end (Syntax at) a = inl (record {
      index = i;
      lexeme = l;
      stands = slice_get-get_or ls i l h ∙ ap Some (sym e);
      place = a.0;
      before = passes;
      refused = no_front (take (i + 1) (tokens ls)) (run-more ∙ a.1);
    })
    refuses whole end (Limit which at) a = record {
      index = i;
      lexeme = l;
      stands = slice_get-get_or ls i l h ∙ ap Some (sym e);
      place = a.place;
      before = passes;
      goes_on = front (take (i + 1) (tokens ls)) a.state (run-more ∙ a.steps);
      limit = sym limit-found ∙ a.limit;
    }
    refuses whole end NoMemory a = tt

past : (ts : List Token) (i : ℕ) → length ts ≤ i → limit_at ts i ≡ None
past ts i h = ap (limit_here (take i ts)) (drop_all i ts h)

all_within : (ls : List Lexeme) → ((j : ℕ) → j < length ls → limit_at (tokens ls) j ≡ None) → IsWithinLimits (tokens ls)
all_within ls h i =
    elim (cases_lt i (length ls)) [
      | inl k ↦ h i k
      | inr k ↦ past (tokens ls) i (simp length-map k)
    ]

other_place : (ls : List Lexeme) (ss : List Stmt) (p : Position) (whole : Bool) (end : ℕ) → state_behind (tokens ls) ≡ Some (record { statements = ss; position = p })
    → (whole ≡ true → position.Between ≡ p → ⊥) → PassesTo (tokens ls) (length ls) → AnswersTokens ls whole end (Err (Syntax end))
other_place ls ss p whole end e h b = inr (record {
  place = refl;
  before = b;
  refused = λ w tree s.
      let f = sym (only (tokens ls) tree s) ∙ e in
      h w (ap place_of f);
})

-- behind the last token
ends_at : (ls : List Lexeme) (ss : List Stmt) (p : Position) (whole : Bool) (end : ℕ) → state_behind (tokens ls) ≡ Some (record { statements = ss; position = p })
    → ((j : ℕ) → j < length ls → limit_at (tokens ls) j ≡ None) → PassesTo (tokens ls) (length ls)
    → AnswersTokens ls whole end (ending_at ss p whole end)
ends_at ls ss position.Between true end e h b = (refl, is_script (tokens ls) ss e, all_within ls h)
ends_at ls ss position.Between false end e h b = other_place ls ss _ false end e (λ w f. cc) b
ends_at ls ss (position.Opened o) true end e h b = other_place ls ss _ true end e (λ w f. cc) b
ends_at ls ss (position.Opened o) false end e h b = other_place ls ss _ false end e (λ w f. cc) b
ends_at ls ss (position.Named o n) true end e h b = other_place ls ss _ true end e (λ w f. cc) b
ends_at ls ss (position.Named o n) false end e h b = other_place ls ss _ false end e (λ w f. cc) b
ends_at ls ss (position.Sealing n) true end e h b = other_place ls ss _ true end e (λ w f. cc) b
ends_at ls ss (position.Sealing n) false end e h b = other_place ls ss _ false end e (λ w f. cc) b
ends_at ls ss (position.Holding n) true end e h b = other_place ls ss _ true end e (λ w f. cc) b
ends_at ls ss (position.Holding n) false end e h b = other_place ls ss _ false end e (λ w f. cc) b
ends_at ls ss (position.Marking n) true end e h b = other_place ls ss _ true end e (λ w f. cc) b
ends_at ls ss (position.Marking n) false end e h b = other_place ls ss _ false end e (λ w f. cc) b
ends_at ls ss (position.Marked n f) true end e h b = other_place ls ss _ true end e (λ w f. cc) b
ends_at ls ss (position.Marked n f) false end e h b = other_place ls ss _ false end e (λ w f. cc) b
ends_at ls ss (position.Inside i n) true end e h b = other_place ls ss _ true end e (λ w f. cc) b
ends_at ls ss (position.Inside i n) false end e h b = other_place ls ss _ false end e (λ w f. cc) b

pub ends : (ls : List Lexeme) (i : ℕ) (r : Reader) (whole : Bool) (end : ℕ) (x : Answer)
    → length ls ≤ i → i ≤ length ls → IsBehind ls i r → x ≡ ending r.state whole end → AnswersTokens ls whole end x
ends ls i r whole end x h k b f =
    let e : i ≡ length ls = omega arith in
    let P : ℕ → Type 0 = λ n. IsBehind ls n r in
    let b' = subst P e b in
    let t = ap tokens (take-length ls) in
    let Q : Answer → Type 0 = λ y. AnswersTokens ls whole end y in
    subst Q (sym f) (ends_at ls r.state.statements r.state.position whole end (sym (ap state_behind t) ∙ b'.state_behind) b'.limits
    (record { front = front _ r.state (ap state_behind (take-map (λ l. l.token) (length ls) ls) ∙ b'.state_behind); limits = b'.limits }))

-- no other answer fits
pub gives : (ls : List Lexeme) (whole : Bool) (end : ℕ) (x : Answer) → AnswersTokens ls whole end x
    → (tree : List Stmt) → whole ≡ true → IsScript (tokens ls) tree → IsWithinLimits (tokens ls) → AnswersOnly tree x
gives ls whole end (Ok other) a tree k s w =
    let e = sym (only (tokens ls) other a.1) ∙ only (tokens ls) tree s in
    ap statements_of e
gives ls whole end (Err (Syntax at)) a tree k s w = elim a [
  | inl r ↦ r.refused (record { more = drop (r.index + 1) (tokens ls); tree = tree; script = record { derivation = s.derivation; spelled = s.spelled ∙ sym (take-append-drop (r.index + 1) (tokens ls)); stands_for = s.stands_for } })
  | inr r ↦ r.refused k tree s
]
gives ls whole end (Err (Limit which at)) a tree k s w = apart (sym (w a.index) ∙ a.limit)
gives ls whole end (Err NoMemory) a tree k s w = tt

-- a refusal that is handed on
pub handed_on : (P : Answer → Type 0) (x : Answer) (why : ScriptRefusal) → IsErrAnd x (λ y. y ≡ why) → P (Err why) → P x
handed_on P (Err y) why e p = subst (λ z. P (Err z)) (sym e) p
handed_on P (Ok tree) why e p = absurd e
