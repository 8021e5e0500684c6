-- The words with sites worked by hand over small inputs, move by move.
use Rattle.std.specs.Prelude.{◌≡◌, refl, ℕ, true, List, [], map, Some, None, codes}
use Rattle.cd_elem.specs.declared.value.Value.TheVariants as result
use Rattle.cd_meaning.specs.Known.{known, nothing_known}
use Rattle.cd_meaning.specs.Run.{start, stamp, Run, Then, Ends}
use Rattle.cd_meaning.specs.RunShapes.{Mark, AtEnd, MayGoOn, Broken, TooLong, Seen}
use Rattle.cd_meaning.specs.Stream.{Elem, Value, Sort, Done, Halts, More, Stop, Reading, ReadBad, Long, Ended, Out, Do, Open, Put, Close}
use Rattle.cd_meaning.specs.Values.{value_meaning}
use Rattle.cd_step.specs.Parts.{Part, rest}
use Rattle.cd_step.specs.Parts as parts
use Rattle.cd_scope.specs.Calls.{site_at}
use Rattle.cd_scope.specs.declared.table.Ticket.{Ticket}
use Rattle.cd_node.specs.Marks.{mark_part}
use Rattle.cd_node.specs.Nodes.{fed_node}
use Rattle.cd_node.specs.Sinks.{sink_part, sink_at, sink_rest}
use Rattle.cd_node.specs.Sources.{source_part}
use Rattle.cd_node.specs.declared.port.Medium.TheVariants.{File, Standard}
use Rattle.cd_node.specs.declared.mark.MarkStand.{MarkStand}
use Rattle.cd_node.specs.declared.mark.MarkStand.TheVariants as marks
use Rattle.cd_node.specs.declared.protocol.NodeInput.TheVariants as given
use Rattle.cd_node.specs.declared.sink.SinkStand.{SinkStand}
use Rattle.cd_node.specs.declared.sink.SinkStand.TheVariants as sinks
use Rattle.cd_node.specs.declared.source.SourceStand.{SourceStand}
use Rattle.cd_node.specs.declared.source.SourceStand.TheVariants as sources

-- the ticket of site 1, at descriptor 4
abbrev ticket : Ticket
ticket = record { site = site_at 1; descriptor = record { 0 = 4 } }

-- at site 1 these bytes are to come, and behind them this
abbrev seen : List ℕ → Mark → Seen
seen bytes mark = known 1 (record { bytes = bytes; mark = mark }) nothing_known

abbrev run_of : Part → Seen → Run
run_of p z = p.run z [] Ended

abbrev done : Run
done = Ends start (Done Value.Unit)

-- ---- `sourceFile` at site 1, of a file that holds `ab`

-- it opens, gives both bytes, and closes
file_run : run_of (source_part File sources.Fresh 1 None) (seen (codes "ab") AtEnd) ≡ Then start (Do (Open 1)) (Then start (Out (Elem 97)) (Then start (Out (Elem 98)) (Then start (Do (Close 1)) done)))
file_run = refl

-- `Acquire 1` leaves the bytes and the close
file_opening : run_of (source_part File sources.Opening 1 None) (seen (codes "ab") AtEnd) ≡ Then start (Out (Elem 97)) (Then start (Out (Elem 98)) (Then start (Do (Close 1)) done))
file_opening = refl

-- `Acquired` gives it the ticket at descriptor 4
file_acquired : (fed_node (given.Acquired ticket) (source_part File sources.Opening 1 None)).tickets 1 4 ≡ true
file_acquired = refl

-- `Read 1` where nothing more is known, by what the site's mark says
file_waits : run_of (source_part File sources.Reading 1 (Some ticket)) (seen [] MayGoOn) ≡ Ends start (Halts (More (Reading 1)))
file_waits = refl

file_breaks : run_of (source_part File sources.Reading 1 (Some ticket)) (seen [] Broken) ≡ Ends start (Halts (Stop (ReadBad 1)))
file_breaks = refl

file_is_too_long : run_of (source_part File sources.Reading 1 (Some ticket)) (seen [] TooLong) ≡ Ends start (Halts (Stop (Long 1)))
file_is_too_long = refl

-- `Gave` of `a`: that is to be given, and then what is still to come, here `b`
file_gave : run_of (fed_node (given.Gave (Sort.Bytes, codes "a")) (source_part File sources.Reading 1 (Some ticket))) (seen (codes "b") AtEnd) ≡ Then start (Out (Elem 97)) (Then start (Out (Elem 98)) (Then start (Do (Close 1)) done))
file_gave = refl

-- `Emit` of `a`
file_emitted : run_of (source_part File sources.Gave 1 (Some ticket)) (seen (codes "b") AtEnd) ≡ Then start (Out (Elem 98)) (Then start (Do (Close 1)) done)
file_emitted = refl

-- `GaveEnd`: it closes, whatever is to come at the site
file_ended : run_of (fed_node given.GaveEnd (source_part File sources.Reading 1 (Some ticket))) (seen (codes "xyz") Broken) ≡ Then start (Do (Close 1)) done
file_ended = refl

-- `Release`
file_closing : run_of (source_part File sources.Closing 1 None) (seen [] AtEnd) ≡ done
file_closing = refl

-- ---- `stdin` at site 1 neither opens nor closes

input_run : run_of (source_part Standard sources.Fresh 1 None) (seen (codes "ab") AtEnd) ≡ Then start (Out (Elem 97)) (Then start (Out (Elem 98)) done)
input_run = refl

input_ended : run_of (fed_node given.GaveEnd (source_part Standard sources.Reading 1 None)) (seen [] AtEnd) ≡ done
input_ended = refl

-- ---- `sinkFile` at site 1, which is given `ab`

abbrev file_sink : SinkStand → Part
file_sink stand = sink_part (sink_at stand 1) 1 None (sink_rest File stand 1)

-- it opens, puts both bytes, and closes at the end
sink_run : (file_sink sinks.Fresh).run nothing_known (map Elem (codes "ab")) Ended
    ≡ Then start (Do (Open 1)) (Then (stamp 1 1) (Do (Put 1 97)) (Then (stamp 2 2) (Do (Put 1 98)) (Then (stamp 3 2) (Do (Close 1)) (Ends (stamp 3 2) (Done Value.Unit)))))
sink_run = refl

-- `Chunk` of `ab` where it waits: two puts, and then it asks
sink_given : (fed_node (given.Chunk (Sort.Bytes, codes "ab")) (file_sink sinks.Waiting)).run nothing_known [] Ended
    ≡ Then (stamp 0 1) (Do (Put 1 97)) (Then (stamp 0 2) (Do (Put 1 98)) (Then (stamp 1 2) (Do (Close 1)) (Ends (stamp 1 2) (Done Value.Unit))))
sink_given = refl

-- `End`: it closes
sink_ended : run_of (fed_node given.End (file_sink sinks.Waiting)) nothing_known ≡ Then (stamp 1 0) (Do (Close 1)) (Ends (stamp 1 0) (Done Value.Unit))
sink_ended = refl

-- `Release`
sink_closing : run_of (file_sink sinks.Closing) nothing_known ≡ Ends (stamp 1 0) (Done Value.Unit)
sink_closing = refl

-- ---- `stdout` at site 1 neither opens nor closes

output_run : (sink_part parts.Fresh 1 None (sink_rest Standard sinks.Fresh 1)).run nothing_known (map Elem (codes "a")) Ended ≡ Then (stamp 1 1) (Do (Put 1 97)) (Ends (stamp 2 1) (Done Value.Unit))
output_run = refl

-- ---- `mark` at site 2 round a source at site 1 of a file that holds `ab`

abbrev bracket : MarkStand → SourceStand → Part
bracket stand inner = mark_part stand 2 None (source_part File inner 1 None)

-- its file is made before the body opens its own, and removed behind the close of that
mark_run : run_of (bracket marks.Fresh sources.Fresh) (seen (codes "a") AtEnd)
    ≡ Then start (Do (Open 2)) (Then start (Do (Open 1)) (Then start (Out (Elem 97)) (Then start (Do (Close 1)) (Then start (Do (Close 2)) done))))
mark_run = refl

-- `Acquire 2` leaves the body and the removal
mark_opening : run_of (bracket marks.Opening sources.Fresh) (seen (codes "a") AtEnd)
    ≡ Then start (Do (Open 1)) (Then start (Out (Elem 97)) (Then start (Do (Close 1)) (Then start (Do (Close 2)) done)))
mark_opening = refl

-- a body that halts is not left: its file stays
mark_halts : run_of (bracket marks.Body sources.Reading) (seen (codes "a") Broken) ≡ Then start (Out (Elem 97)) (Ends start (Halts (Stop (ReadBad 1))))
mark_halts = refl

-- the body has ended with 5, and gave `xy` back: `Release`, and then that
mark_closing : run_of (bracket (marks.Closing (result.Num 5) (Some (Sort.Bytes, codes "xy"))) sources.Over) nothing_known ≡ Ends start (Done (value_meaning (result.Num 5)))
mark_closing = refl

mark_gives_back : (bracket (marks.Closing (result.Num 5) (Some (Sort.Bytes, codes "xy"))) sources.Over).unread ≡ map Elem (codes "xy")
mark_gives_back = refl
