-- `run sourceFile "a" | takeE N | stdout;` over a file of which this was seen.
use Rattle.std.specs.Prelude.{◌≡◌, ℕ, List, [], ◌∷◌, codes}
use Rattle.cd_meaning.specs.Stream.{Value, More, Stop, Reading, ReadBad, Ending, Done, Halts, Effect, Open, Put, Close}
use Rattle.cd_meaning.specs.Run.{effects, ending}
use Rattle.cd_meaning.specs.RunShapes.{AtEnd, MayGoOn, Broken}
use Rattle.cd_meaning.specs.Pipes.{nodes}
use Rattle.cd_meaning.specs.Scripts.{script_run}
use Rattle.cd_meaning.specs.TakeForm.{take_script}
use Rattle.cd_meaning.specs.Rows.Given.{AtSite, seen_of, told_of}

abbrev does : ℕ → List AtSite → List Effect
does n told = effects (script_run (take_script (codes "a") n) (seen_of told))

abbrev ends_so : ℕ → List AtSite → Ending
ends_so n told = ending (script_run (take_script (codes "a") n) (seen_of told))

-- open, hello, and the file stays open: no close
more_than_asked : does 5 (told_of 1 (codes "hello world") AtEnd ∷ []) ≡ Open 1 ∷ Put 2 104 ∷ Put 2 101 ∷ Put 2 108 ∷ Put 2 108 ∷ Put 2 111 ∷ []
more_than_asked = simp (nodes, does, ends_so)

more_than_asked_ends : ends_so 5 (told_of 1 (codes "hello world") AtEnd ∷ []) ≡ Done Value.Unit
more_than_asked_ends = simp (nodes, does, ends_so)

-- the end of `hello` is not asked for
as_much_as_asked : does 5 (told_of 1 (codes "hello") AtEnd ∷ []) ≡ Open 1 ∷ Put 2 104 ∷ Put 2 101 ∷ Put 2 108 ∷ Put 2 108 ∷ Put 2 111 ∷ []
as_much_as_asked = simp (nodes, does, ends_so)

as_much_as_asked_ends : ends_so 5 (told_of 1 (codes "hello") AtEnd ∷ []) ≡ Done Value.Unit
as_much_as_asked_ends = simp (nodes, does, ends_so)

-- and need not be known
end_unknown : does 5 (told_of 1 (codes "hello") MayGoOn ∷ []) ≡ Open 1 ∷ Put 2 104 ∷ Put 2 101 ∷ Put 2 108 ∷ Put 2 108 ∷ Put 2 111 ∷ []
end_unknown = simp (nodes, does, ends_so)

end_unknown_ends : ends_so 5 (told_of 1 (codes "hello") MayGoOn ∷ []) ≡ Done Value.Unit
end_unknown_ends = simp (nodes, does, ends_so)

-- where less was given, it waits for the file
less_so_far : does 5 (told_of 1 (codes "hell") MayGoOn ∷ []) ≡ Open 1 ∷ Put 2 104 ∷ Put 2 101 ∷ Put 2 108 ∷ Put 2 108 ∷ []
less_so_far = simp (nodes, does, ends_so)

less_so_far_ends : ends_so 5 (told_of 1 (codes "hell") MayGoOn ∷ []) ≡ Halts (More (Reading 1))
less_so_far_ends = simp (nodes, does, ends_so)

empty_file : does 5 (told_of 1 [] AtEnd ∷ []) ≡ Open 1 ∷ Close 1 ∷ []
empty_file = simp (nodes, does, ends_so)

empty_file_ends : ends_so 5 (told_of 1 [] AtEnd ∷ []) ≡ Done Value.Unit
empty_file_ends = simp (nodes, does, ends_so)

-- no byte is asked for, and the file is not opened
none_asked : does 0 (told_of 1 (codes "hello") AtEnd ∷ []) ≡ []
none_asked = simp (nodes, does, ends_so)

none_asked_ends : ends_so 0 (told_of 1 (codes "hello") AtEnd ∷ []) ≡ Done Value.Unit
none_asked_ends = simp (nodes, does, ends_so)

-- what came before a read that fails is put
broken_file : does 5 (told_of 1 (codes "ab") Broken ∷ []) ≡ Open 1 ∷ Put 2 97 ∷ Put 2 98 ∷ []
broken_file = simp (nodes, does, ends_so)

broken_file_ends : ends_so 5 (told_of 1 (codes "ab") Broken ∷ []) ≡ Halts (Stop (ReadBad 1))
broken_file_ends = simp (nodes, does, ends_so)
