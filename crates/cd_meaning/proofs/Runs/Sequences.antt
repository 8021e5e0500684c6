-- Sequences and `mark` are runs where their parts are.
use Rattle.std.proofs.Common.{◌≡◌, ℕ, suc, ◌+◌, ◌-◌, ◌≤◌, ◌<◌, ◌⊎◌, inl, inr, max, ◌++◌, length, drop, ap, sym, ◌∙◌, subst, arith, length-drop}
use Rattle.std.proofs.lemmas.Bool.{le-leb, lt-leb, cases_lt}
use Rattle.std.proofs.lemmas.List.{drop-append-le}
use Rattle.cd_meaning.specs.Stream.{Value, Halt, Halted, Ending, Done, Act, Do, Open, Close}
use Rattle.cd_meaning.specs.Run.{Stamp, Run, Then, Ends, Component, last, restamp, follow}
use Rattle.cd_meaning.specs.Sections.{behind, sequence}
use Rattle.cd_meaning.specs.Sources.{marked}
use Rattle.cd_meaning.specs.Laws.{Rising, cut, IsStamp, IsRun}
use Rattle.cd_meaning.proofs.Rising.{le_self}
use Rattle.cd_meaning.proofs.Cut.{cut_act, cut_last}
use Rattle.cd_meaning.proofs.Runs.Sources.{opened_is_run}
use Rattle.cd_meaning.proofs.Stamps.{each_restamp, each_last}
use Rattle.cd_meaning.proofs.Follow.{each_follow, follow_rising, follow_cut}

behind_stamp : (n : ℕ) (s t : Stamp) → IsStamp n s → IsStamp (n - s.net) t → IsStamp n (behind s t)
behind_stamp n s t p q = record {
  asked = (let a1 = p.asked in let a2 = p.there in let a3 = q.asked in omega arith);
  there = (let a1 = p.there in let a2 = q.there in omega arith);
  taken = (let a1 = p.taken in let a2 = q.taken in omega arith);
  one_back = (let a1 = p.one_back in let a2 = q.one_back in omega arith);
}

pub rising_behind : (s : Stamp) (m : ℕ) (r : Run) → Rising m r → Rising s.need (restamp (behind s) r)
rising_behind s m (Then t a r) j = (omega arith, rising_on s t r j.1) where
  rising_on : (s t : Stamp) (r : Run) → Rising t.need r → Rising (max s.need (s.net + t.need)) (restamp (behind s) r)
  rising_on s t (Then u a r) j = (let h : t.need ≤ u.need = j.0 in omega arith, rising_on s u r j.1)
  rising_on s t (Ends u e) j = omega arith
rising_behind s m (Ends t e) j = omega arith

-- a run behind s, cut
cut_behind : (n : ℕ) (h : Halt) (s : Stamp) (r : Run) → s.need ≤ n → s.net ≤ n → restamp (behind s) (cut (n - s.net) h r) ≡ cut n h (restamp (behind s) r)
cut_behind n h s (Then t a r) k l = by_need n h s t a r k l (cut_behind n h s r k l) (cases_lt (n - s.net) t.need) where
  by_need : (n : ℕ) (h : Halt) (s t : Stamp) (a : Act) (r : Run) → s.need ≤ n → s.net ≤ n → restamp (behind s) (cut (n - s.net) h r) ≡ cut n h (restamp (behind s) r)
      → (n - s.net < t.need) ⊎ (t.need ≤ n - s.net) → restamp (behind s) (cut (n - s.net) h (Then t a r)) ≡ cut n h (Then (behind s t) a (restamp (behind s) r))
  by_need n h s t a r k l i (inl j) =
      let e1 : max s.need (s.net + suc (n - s.net)) ≡ suc n = omega arith in
      let e2 : s.net + (n - s.net) ≡ n = omega arith in
      rw (lt-leb t.need (n - s.net) j, lt-leb (max s.need (s.net + t.need)) n (omega arith), e1, e2)
  by_need n h s t a r k l i (inr j) = rw (le-leb t.need (n - s.net) j, le-leb (max s.need (s.net + t.need)) n (omega arith), i)
cut_behind n h s (Ends t e) k l = by_need n h s t e k l (cases_lt (n - s.net) t.need) where
  by_need : (n : ℕ) (h : Halt) (s t : Stamp) (e : Ending) → s.need ≤ n → s.net ≤ n
      → (n - s.net < t.need) ⊎ (t.need ≤ n - s.net) → restamp (behind s) (cut (n - s.net) h (Ends t e)) ≡ cut n h (Ends (behind s t) e)
  by_need n h s t e k l (inl j) =
      let e1 : max s.need (s.net + suc (n - s.net)) ≡ suc n = omega arith in
      let e2 : s.net + (n - s.net) ≡ n = omega arith in
      rw (lt-leb t.need (n - s.net) j, lt-leb (max s.need (s.net + t.need)) n (omega arith), e1, e2)
  by_need n h s t e k l (inr j) = rw (le-leb t.need (n - s.net) j, le-leb (max s.need (s.net + t.need)) n (omega arith))

-- of n values and more, where no more than n are needed, no more than n are taken
net_within : (n : ℕ) (s : Stamp) (m : ℕ) → IsStamp m s → s.need ≤ n → s.net ≤ n
net_within n s m p l = let t = p.taken in omega arith

pub sequence_is_run : (a b : Component) → IsRun a → IsRun b → IsRun (sequence a b)
sequence_is_run a b ka kb = record {
  rising = λ xs e. follow_rising 0 (a xs e) _ (ka.rising xs e) (λ v. rising_behind (last (a xs e)) 0 _ (kb.rising _ _));
  stamps = λ xs e. each_follow (IsStamp (length xs)) (a xs e) _
      (λ s v p. each_restamp (IsStamp (length (drop s.net xs))) (IsStamp (length xs)) (behind s) _
      (λ t q. behind_stamp (length xs) s t p (subst (λ n. IsStamp n t) (length-drop s.net xs) q)) (kb.stamps _ _))
      (ka.stamps xs e);
  known = λ xs ys h e.
      let n = length xs in
      let r = a (xs ++ ys) e in
      let s = last r in
      let p = each_last (IsStamp (length (xs ++ ys))) r (ka.stamps (xs ++ ys) e) in
      ap (λ r. follow r (λ s v. restamp (behind s) (b (drop s.net xs) (Halted h)))) (ka.known xs ys h e)
      ∙ follow_cut n h r _ (λ s v. restamp (behind s) (b (drop s.net (xs ++ ys)) e))
      (λ v i l.
      ap (restamp (behind s)) (kb.known (drop s.net xs) ys h e)
      ∙ ap (λ m. restamp (behind s) (cut m h (b (drop s.net xs ++ ys) e))) (length-drop s.net xs)
      ∙ cut_behind n h s (b (drop s.net xs ++ ys) e) l (net_within n s _ p l)
      ∙ ap (λ l. cut n h (restamp (behind s) (b l e))) (sym (drop-append-le s.net xs ys (net_within n s _ p l))))
      (λ v. rising_behind s 0 _ (kb.rising _ _));
}

-- the body, and the closing behind its value
closed_behind : (site : ℕ) (body : Component) → IsRun body → IsRun (λ xs e. follow (body xs e) (λ t v. Then t (Do (Close site)) (Ends t (Done v))))
closed_behind site body k = record {
  rising = λ xs e. follow_rising 0 (body xs e) _ (k.rising xs e) (λ v. (le_self (last (body xs e)).need, le_self (last (body xs e)).need));
  stamps = λ xs e. each_follow (IsStamp (length xs)) (body xs e) _ (λ s v p. (p, p)) (k.stamps xs e);
  known = λ xs ys h e.
      let n = length xs in
      let r = body (xs ++ ys) e in
      let s = last r in
      ap (λ r. follow r (closes site)) (k.known xs ys h e)
      ∙ follow_cut n h r (closes site) (closes site)
      (λ v i l. sym (cut_act n h s (Do (Close site)) (Ends s (Done v)) l ∙ ap (λ q. Then s (Do (Close site)) q) (cut_last n h s (Done v) l)))
      (λ v. (le_self s.need, le_self s.need));
} where
  closes : ℕ → Stamp → Value → Run
  closes site t v = Then t (Do (Close site)) (Ends t (Done v))

pub marked_is_run : (site : ℕ) (body : Component) → IsRun body → IsRun (marked site body)
marked_is_run site body k = opened_is_run (Do (Open site)) _ (closed_behind site body k)
