-- One more byte of a literal.
use Rattle.std.proofs.Common.{◌≡◌, ℕ, ◌+◌, ◌<◌, ◌≤◌, List, [], ◌∷◌, ◌++◌, Option, Some, None, length, drop, get_or, refl, ap, sym, ◌∙◌, arith, append_assoc, append-nil, add-one, encode_utf8, subst}
use Rattle.std.proofs.Math.Seq.{drop-cons}
use Rattle.std.proofs.lemmas.List.{drop_all}
use Rattle.cd_lex.specs.declared.literal.LiteralState.{LiteralState}
use Rattle.cd_lex.specs.declared.literal.LiteralState.TheVariants.{Plain}
use Rattle.cd_lex.specs.declared.literal.LiteralStep.{LiteralStep}
use Rattle.cd_lex.specs.declared.literal.LiteralStep.TheVariants.{Closes, Fails, Goes, Byte, Char}
use Rattle.cd_lex.specs.Quotes.{Fits, Continues, read_byte, read_on, longer, found_behind, literal_from}

pub behind-longer : (v w : List ℕ) (n : ℕ) (o : Option (List ℕ × ℕ)) → found_behind v n (longer w o) ≡ found_behind (v ++ w) (n + 1) o
behind-longer v w n None = refl
behind-longer v w n (Some f) =
    let e : v ++ (w ++ f.0) ≡ (v ++ w) ++ f.0 = simp append_assoc in
    let k : n + (f.1 + 1) ≡ n + 1 + f.1 = omega arith in
    ap (λ x. Some (x, n + (f.1 + 1))) e ∙ ap (λ m. Some ((v ++ w) ++ f.0, m)) k

module _ (text v : List ℕ) (r : LiteralState) (i c : ℕ) (h : i < length text) (e : c ≡ get_or text i 0) where
  next : literal_from r (drop i text) ≡ read_on (read_byte r c) (λ s. literal_from s (drop (i + 1) text))
  next = rw (drop-cons text i 0 h, ← e, add-one) refl

  module _ (x : LiteralStep) (f : x ≡ read_byte r c) where
    picked : found_behind v i (literal_from r (drop i text)) ≡ found_behind v i (read_on x (λ s. literal_from s (drop (i + 1) text)))
    picked = ap (found_behind v i) (next ∙ ap (λ y. read_on y (λ s. literal_from s (drop (i + 1) text))) (sym f))

    pub closes : x ≡ Closes → found_behind v i (literal_from r (drop i text)) ≡ Some (v, i + 1)
    closes g = picked ∙ ap (λ y. found_behind v i (read_on y (λ s. literal_from s (drop (i + 1) text)))) g ∙ simp append-nil

    pub fails : x ≡ Fails → found_behind v i (literal_from r (drop i text)) ≡ None
    fails g = picked ∙ ap (λ y. found_behind v i (read_on y (λ s. literal_from s (drop (i + 1) text)))) g

    pub goes : (s : LiteralState) → x ≡ Goes s → found_behind v i (literal_from r (drop i text)) ≡ found_behind v (i + 1) (literal_from s (drop (i + 1) text))
    goes s g =
        picked ∙ ap (λ y. found_behind v i (read_on y (λ s. literal_from s (drop (i + 1) text)))) g ∙ behind-longer v [] i (literal_from s (drop (i + 1) text))
        ∙ ap (λ w. found_behind w (i + 1) (literal_from s (drop (i + 1) text))) (append-nil v)

    pub byte : (b : ℕ) → x ≡ Byte b → found_behind v i (literal_from r (drop i text)) ≡ found_behind (v ++ b ∷ []) (i + 1) (literal_from Plain (drop (i + 1) text))
    byte b g =
        picked ∙ ap (λ y. found_behind v i (read_on y (λ s. literal_from s (drop (i + 1) text)))) g ∙ behind-longer v (b ∷ []) i (literal_from Plain (drop (i + 1) text))

    pub char : (b : ℕ) → x ≡ Char b → found_behind v i (literal_from r (drop i text)) ≡ found_behind (v ++ encode_utf8 b) (i + 1) (literal_from Plain (drop (i + 1) text))
    char b g =
        picked ∙ ap (λ y. found_behind v i (read_on y (λ s. literal_from s (drop (i + 1) text)))) g ∙ behind-longer v (encode_utf8 b) i (literal_from Plain (drop (i + 1) text))

pub ends : (text v : List ℕ) (r : LiteralState) (i : ℕ) → length text ≤ i → found_behind v i (literal_from r (drop i text)) ≡ None
ends text v r i h = ap (λ xs. found_behind v i (literal_from r xs)) (drop_all i text h)

pub goes-fits : (x : LiteralStep) (s : LiteralState) → x ≡ Goes s → Continues x → Fits s
goes-fits x s e c = subst Continues e c
