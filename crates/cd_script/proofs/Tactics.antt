-- Lemmas that the tactics take.
use Rattle.cd_script.proofs.CanonicalPipes.{piece-out, wrapped-Chain, tokens-Word, tokens-Chain, tokens-Sequence, tokens-Exactly, tokens-ExactlyE, range-Word, range-Chain, range-Sequence, range-Exactly, range-ExactlyE, range-LineE, range-Mark, range-Tee, range-ZipSource, range-ZipSink, range-ZipConduit}

pub ruleset pieces = (tokens-Word, tokens-Chain, tokens-Sequence, tokens-Exactly, tokens-ExactlyE, range-Word, range-Chain, range-Sequence, range-Exactly, range-ExactlyE, range-LineE, range-Mark, range-Tee, range-ZipSource, range-ZipSink, range-ZipConduit)

pub ruleset members = (piece-out, wrapped-Chain)
