-- What is made of parts that have not begun has the run of the form.
use Rattle.std.proofs.Common.{◌≡◌, ℕ, List, drop, None, refl, arith}
use Rattle.cd_meaning.specs.Stream.{Item, Value, End}
use Rattle.cd_meaning.specs.Run.{Component, restamp, last}
use Rattle.cd_meaning.specs.Fusion.{fuse, fuse_drained, fuse_asked, fuse_return, fuse_keep}
use Rattle.cd_meaning.specs.Sections.{behind, sequence}
use Rattle.cd_meaning.specs.Zips.{zip_source, zip_sink}
use Rattle.cd_meaning.specs.Rest.{fresh, fused, fused_by, drained_finish, asked_finish, fused_return, followed, behind_rest, behind_map, zipped, zipped_sources}
use Rattle.cd_meaning.proofs.Restamp.{restamp_same, stamp_same}
use Rattle.cd_meaning.proofs.Follow.{follow_at_last}
use Rattle.cd_meaning.proofs.Runs.Keeps.{IsMap, keep_on_mapped}

pub fuse_fresh : (a b : Component) (ys : List Item) (e : End) → (fused (fresh a) (fresh b)).run ys e ≡ fuse a b ys e
fuse_fresh a b ys e = refl

pub drained_fresh : (pair : Value → Value → Value) (a b : Component) (ys : List Item) (e : End) → (fused_by (drained_finish pair) (fresh a) (fresh b)).run ys e ≡ fuse_drained pair a b ys e
drained_fresh pair a b ys e = refl

pub asked_fresh : (a b : Component) (ys : List Item) (e : End) → (fused_by asked_finish (fresh a) (fresh b)).run ys e ≡ fuse_asked a b ys e
asked_fresh a b ys e = refl

pub return_fresh : (list : List Item → Value) (a b : Component) (ys : List Item) (e : End) → (fused_return list (fresh a) (fresh b)).run ys e ≡ fuse_return list a b ys e
return_fresh list a b ys e = refl

-- g undoes the map
pub keep_fresh : (a b : Component) (m : IsMap a) (g : Item → Item) (ys : List Item) (e : End) → fuse_keep a b ys e ≡ (behind_map m.value g (fresh b)).run ys e
keep_fresh a b m g ys e = keep_on_mapped a b m ys e

pub sequence_fresh : (a b : Component) (ys : List Item) (e : End) → (followed (fresh a) b).run ys e ≡ sequence a b ys e
sequence_fresh a b ys e =
    follow_at_last (a ys e) (λ s v. restamp (behind_rest 0 s) (b (drop s.net ys) e)) (λ s v. restamp (behind s) (b (drop s.net ys) e))
    (λ v z. restamp_same (behind_rest 0 (last (a ys e))) (behind (last (a ys e))) (b (drop (last (a ys e)).net ys) e) (λ t. stamp_same _ _ _ _ (omega arith) refl))

pub zip_sink_fresh : (a b : Component) (ys : List Item) (e : End) → (zipped 0 (fresh a) (fresh b)).run ys e ≡ zip_sink a b ys e
zip_sink_fresh a b ys e = refl

pub zip_source_fresh : (separator : List ℕ) (a b : Component) (ys : List Item) (e : End) → (zipped_sources separator None (fresh a) (fresh b)).run ys e ≡ zip_source separator a b ys e
zip_source_fresh separator a b ys e = refl
