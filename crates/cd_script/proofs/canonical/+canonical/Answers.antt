use Rattle.std.proofs.Common.{◌≡◌, ◌++◌, OnOk, List, [], ◌∷◌, ap, ◌∙◌, sym, subst, append_assoc}
use Rattle.cd_elem.specs.declared.script.Pipe.{Pipe}
use Rattle.cd_elem.specs.declared.token.Sign.TheVariants as sign
use Rattle.cd_elem.specs.declared.token.Token.{Token}
use Rattle.cd_elem.specs.declared.token.Token.TheVariants as token
use Rattle.cd_grammar.specs.Canonical.{canonical_pipe, wrapped}
use Rattle.cd_script.proofs.CanonicalPipes.{wrapped-Chain, tokens-LineE, tokens-Mark, tokens-Tee, zip_source-behind, tokens-ZipSink, tokens-ZipConduit}
use Rattle.cd_script.proofs.canonical.+canonical.Goals as goal

pub put_member-returns-in_ok-put_sign-in-Chain-clause-tokens : goal.put_member-returns-in_ok-put_sign-in-Chain-clause-tokens
put_member-returns-in_ok-put_sign-in-Chain-clause-tokens t c =
    let P : List Token → Type 0 = λ ts. OnOk c.put_until.result (c.put_until.new.out ≡ ts) in
    let Q : Pipe → Type 0 = λ p. wrapped (canonical_pipe p) ≡ token.Sign sign.OpenParen ∷ (canonical_pipe p).tokens ++ token.Sign sign.CloseParen ∷ [] in
    let e = subst Q (sym c.in-Chain.is) (wrapped-Chain c.in-Chain.field-0 c.in-Chain.field-1) in
    subst P (rw (c.in_ok-put_sign-in-Chain.ensures, e) (simp append_assoc)) c.put_until.ensures.tokens

pub put_pipe-returns-in_ok-put_keyword-in-LineE-clause-tokens : goal.put_pipe-returns-in_ok-put_keyword-in-LineE-clause-tokens
put_pipe-returns-in_ok-put_keyword-in-LineE-clause-tokens t c =
    let P : List Token → Type 0 = λ ts. OnOk c.put_block.result (c.put_block.new.out ≡ ts) in
    let e = ap (λ p. (canonical_pipe p).tokens) c.in-LineE.is ∙ tokens-LineE c.in-LineE.inner in
    subst P (rw (c.in_ok-put_keyword-in-LineE.ensures, c.get-in-LineE.ensures, e) (simp append_assoc)) c.put_block.ensures.tokens

pub put_pipe-returns-in_ok-put_with_text-in-Mark-clause-tokens : goal.put_pipe-returns-in_ok-put_with_text-in-Mark-clause-tokens
put_pipe-returns-in_ok-put_with_text-in-Mark-clause-tokens t c =
    let P : List Token → Type 0 = λ ts. OnOk c.put_block-in-Mark.result (c.put_block-in-Mark.new.out ≡ ts) in
    let e = ap (λ p. (canonical_pipe p).tokens) c.in-Mark.is ∙ tokens-Mark c.in-Mark.name c.in-Mark.inner in
    subst P (rw (c.in_ok-put_with_text-in-Mark.ensures, c.get-in-Mark.ensures, e) (simp append_assoc)) c.put_block-in-Mark.ensures.tokens

pub put_pipe-returns-in_ok-put_sign-in-Tee-clause-tokens : goal.put_pipe-returns-in_ok-put_sign-in-Tee-clause-tokens
put_pipe-returns-in_ok-put_sign-in-Tee-clause-tokens t c =
    let P : List Token → Type 0 = λ ts. OnOk c.put_until.result (c.put_until.new.out ≡ ts) in
    let e = ap (λ p. (canonical_pipe p).tokens) c.in-Tee.is ∙ tokens-Tee c.in-Tee.inner in
    subst P (rw (c.in_ok-put_sign-in-Tee.ensures, c.in_ok-put_keyword-in-Tee.ensures, c.get-in-Tee.ensures, e) (simp append_assoc)) c.put_until.ensures.tokens

pub put_pipe-returns-in_ok-put_text-in-ZipSource-clause-tokens : goal.put_pipe-returns-in_ok-put_text-in-ZipSource-clause-tokens
put_pipe-returns-in_ok-put_text-in-ZipSource-clause-tokens t c =
    let P : List Token → Type 0 = λ ts. OnOk c.put_sign-in-ZipSource.result (c.put_sign-in-ZipSource.new.out ≡ ts) in
    let e =
    zip_source-behind c.args.out.now c.put_first.new.out c.put_until-in-ZipSource.new.out c.put_text.new.out c.args.pipe.now c.in-ZipSource.first
    c.in-ZipSource.second c.get-in-ZipSource.result.now c.get-in-ZipSource-2.result.now c.in-ZipSource.between c.in-ZipSource.is
    c.get-in-ZipSource.ensures c.get-in-ZipSource-2.ensures c.in_ok-put_first-in-ZipSource.ensures.tokens
    c.in_ok-put_until-in-ZipSource.ensures.tokens c.in_ok-put_text-in-ZipSource.ensures
    in
    subst P e c.put_sign-in-ZipSource.ensures

pub put_pipe-returns-in_ok-put_first-in-ZipSink-clause-tokens : goal.put_pipe-returns-in_ok-put_first-in-ZipSink-clause-tokens
put_pipe-returns-in_ok-put_first-in-ZipSink-clause-tokens t c =
    let P : List Token → Type 0 = λ ts. OnOk c.put_until-in-ZipSink.result (c.put_until-in-ZipSink.new.out ≡ ts) in
    let e = ap (λ p. (canonical_pipe p).tokens) c.in-ZipSink.is ∙ tokens-ZipSink c.in-ZipSink.first c.in-ZipSink.second in
    subst P (rw (c.in_ok-put_first-in-ZipSink.ensures.tokens, c.get-in-ZipSink.ensures, c.get-in-ZipSink-2.ensures, e) (simp append_assoc)) c.put_until-in-ZipSink.ensures.tokens

pub put_pipe-returns-in_ok-put_first-in-ZipConduit-clause-tokens : goal.put_pipe-returns-in_ok-put_first-in-ZipConduit-clause-tokens
put_pipe-returns-in_ok-put_first-in-ZipConduit-clause-tokens t c =
    let P : List Token → Type 0 = λ ts. OnOk c.put_until-in-ZipConduit.result (c.put_until-in-ZipConduit.new.out ≡ ts) in
    let e = ap (λ p. (canonical_pipe p).tokens) c.in-ZipConduit.is ∙ tokens-ZipConduit c.in-ZipConduit.first c.in-ZipConduit.second in
    subst P (rw (c.in_ok-put_first-in-ZipConduit.ensures.tokens, c.get-in-ZipConduit.ensures, c.get-in-ZipConduit-2.ensures, e) (simp append_assoc)) c.put_until-in-ZipConduit.ensures.tokens
