use Rattle.cd_meaning.proofs.Runs.PlainText.{utf8_reads_text, lenient_reads_text, utf8_unfinished, utf8_bad}
use Rattle.cd_meaning.proofs.laws.plain_utf8.Goals as goal

pub returns-clause-text : goal.returns-clause-text
returns-clause-text c = utf8_reads_text

pub returns-clause-lenient : goal.returns-clause-lenient
returns-clause-lenient c = lenient_reads_text

pub returns-clause-unfinished : goal.returns-clause-unfinished
returns-clause-unfinished c = utf8_unfinished

pub returns-clause-bad : goal.returns-clause-bad
returns-clause-bad c = utf8_bad
