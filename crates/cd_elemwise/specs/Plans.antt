-- What a word does with the chunk that it has.
use Rattle.std.specs.Prelude.{◌≡◌, ℕ, ◌<◌, ◌≤◌, List, map, take, drop, length, None}
use Rattle.cd_elem.specs.Limits.{chunk_limit}
use Rattle.cd_meaning.specs.Stream.{Sort, Elem, Out}
use Rattle.cd_meaning.specs.Values.{value_meaning}
use Rattle.cd_step.specs.Reading.{IsRead, IsSilent, IsDone}
use Rattle.cd_elemwise.specs.declared.plan.ChunkPlan.{ChunkPlan}
use Rattle.cd_elemwise.specs.declared.plan.ChunkPlan.TheVariants.{Need, Pass, Give, End}
use Rattle.cd_elemwise.specs.Carried.{Carried, Emits, carried_ready, word_scan}

-- From s it does so with these elements. Where it goes on, it then carries t.
abbrev pub IsPlan : Sort → Carried → List ℕ → ChunkPlan → Carried → Type 0
IsPlan k s numbers Need t = IsSilent (word_scan k) s (map Elem numbers) t × (carried_ready k t ≡ None)
IsPlan k s numbers (Pass count) t =
    Emits k t × (0 < count) × (count ≤ length numbers)
    × IsRead (word_scan k) s (map Elem (take count numbers)) (map Out (map Elem (take count numbers))) t
IsPlan k s numbers (Give c count) t =
    Emits k t × (0 < count) × (count ≤ length numbers) × (c.0 ≡ k) × (0 < length c.1) × (length c.1 ≤ chunk_limit)
    × IsRead (word_scan k) s (map Elem (take count numbers)) (map Out (map Elem c.1)) t
IsPlan k s numbers (End v count) t =
    (count ≤ length numbers) × IsDone (word_scan k) s (map Elem (take count numbers)) (map Elem (drop count numbers)) (value_meaning v)
