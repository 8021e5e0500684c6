use Rattle.std.proofs.Common.{sym, ◌∙◌, subst, refl, get_or}
use Rattle.cd_lex.specs.Quotes.{Fits}
use Rattle.cd_lex.proofs.Quoting.{goes, byte, char, goes-fits}
use Rattle.cd_lex.proofs.literal.read_quoted.Goals as goal
use Rattle.cd_lex.proofs.literal.read_quoted.Goals.{in-Goes, in-Byte+in_ok-bytes-in-Byte, in-Char+in_ok-bytes-in-Char}

pub loop-place-preserved : goal.loop-place-preserved
loop-place-preserved c =
    elim c.match-read_byte.branch [
      | in-Goes w ↦ record {
        fits = subst Fits (sym w.reading-is) (goes-fits c.read_byte.result w.in-Goes.next w.in-Goes.is c.read_byte.ensures.fits);
        rest = rw (w.bytes-is, w.reading-is) (sym (goes c.args.text.now c.loop-place.bytes c.loop-place.reading c.loop-place.place (get_or c.args.text.now c.loop-place.place 0) c.loop-place-test.true refl
            c.read_byte.result c.read_byte.ensures.value w.in-Goes.next w.in-Goes.is) ∙ c.loop-place.invariant.rest);
      }
      | in-Byte+in_ok-bytes-in-Byte w ↦ record {
        fits = subst Fits (sym w.reading-is) tt;
        rest = rw (w.bytes-is, w.reading-is, w.in_ok-bytes-in-Byte.ensures) (sym (byte c.args.text.now c.loop-place.bytes c.loop-place.reading c.loop-place.place (get_or c.args.text.now c.loop-place.place 0) c.loop-place-test.true refl
            c.read_byte.result c.read_byte.ensures.value w.in-Byte.meant w.in-Byte.is) ∙ c.loop-place.invariant.rest);
      }
      | in-Char+in_ok-bytes-in-Char w ↦ record {
        fits = subst Fits (sym w.reading-is) tt;
        rest = rw (w.bytes-is, w.reading-is, w.in_ok-bytes-in-Char.ensures) (sym (char c.args.text.now c.loop-place.bytes c.loop-place.reading c.loop-place.place (get_or c.args.text.now c.loop-place.place 0) c.loop-place-test.true refl
            c.read_byte.result c.read_byte.ensures.value w.in-Char.scalar w.in-Char.is) ∙ c.loop-place.invariant.rest);
      }
    ]
