-- All journeys that fit, by a list of all rising lists: sound and complete for the definition.
use Rattle.std.proofs.Common.{◌≡◌, ℕ, zero, suc, ◌+◌, ◌<◌, ◌≤◌, Bool, true, false, cond, not, ◌&&◌, ◌||◌, eqb, ltb, leb, List, [], ◌∷◌, ◌++◌, map, length, ℤ, ◌≤ℤ◌, ◌<ℤ◌, Decides, sym, refl, subst, inl, inr, ⊎_elim, arith}
use lib.Signed.{lt_z}
use Rattle.std.proofs.lemmas.Int.{ints}
use Rattle.std.proofs.lemmas.Bool.{and_from, and_parts, cases_order, le-leb, leb-true, both_ways, cases_Bool, not-true, or_cases}
use Rattle.std.proofs.lemmas.Bool.Decides.{Decides-and, Decides-eqb, Decides-ltb}
use Rattle.std.proofs.lemmas.Slice.Eq.{bytes_eq-Decides}
use Rattle.std.specs.List.{AllByRecursion}
use Rattle.std.specs.Str.{bytes_eq}
use Rattle.records.specs.declared.event.Event.{Event}
use Rattle.records.specs.Events.{time_of}
use Rattle.measures.specs.Measures.{Ops, Score, ◌≼◌}
use Rattle.journeys.specs.declared.query.Query.{Query}
use Rattle.journeys.specs.Best.{IsBest, IsLowerBound, NothingFits, IsOnlyJourney}
use Rattle.journeys.specs.Formulas.{score_of}
use Rattle.journeys.specs.Journeys.{Before, AllNeighbours, Fits, Link, beginning, ending, last_number, first_number, leaves_at, event_numbered, openings, reaches_at, ready_at, rides}

-- a test of every element, and what it says
abbrev every : {X : Type 0} → (X → Bool) → List X → Bool
every t [] = true
every t (x ∷ xs) = t x && every t xs

every_append : {X : Type 0} (t : X → Bool) (xs ys : List X) → every t (xs ++ ys) ≡ true → (every t xs ≡ true) × (every t ys ≡ true)
every_append t [] ys h = (refl, h)
every_append t (x ∷ xs) ys h =
    let k = and_parts (t x) (every t (xs ++ ys)) h in
    let r = every_append t xs ys k.1 in
    (and_from (t x) (every t xs) k.0 r.0, r.1)

every_map : {X Y : Type 0} (t : Y → Bool) (f : X → Y) (xs : List X) → every t (map f xs) ≡ true → every (λ x. t (f x)) xs ≡ true
every_map t f [] h = refl
every_map t f (x ∷ xs) h =
    let k = and_parts (t (f x)) (every t (map f xs)) h in
    and_from (t (f x)) (every (λ y. t (f y)) xs) k.0 (every_map t f xs k.1)

-- all rising lists of the n numbers from a on
abbrev pub risings : ℕ → ℕ → List (List ℕ)
risings a zero = [] ∷ []
risings a (suc n) = risings (a + 1) n ++ map (λ js. a ∷ js) (risings (a + 1) n)

all_from : (P Q : ℕ → Type 0) → ((j : ℕ) → P j → Q j) → (js : List ℕ) → AllByRecursion P js → AllByRecursion Q js
all_from P Q h [] a = tt
all_from P Q h (j ∷ js) a = (h j a.0, all_from P Q h js a.1)

-- numbers of a rising list lie above its first
rising_above : (a : ℕ) (js : List ℕ) → Before ◌<◌ a js → AllNeighbours ◌<◌ js → AllByRecursion (λ j. a + 1 ≤ j) js
rising_above a [] b c = tt
rising_above a (j ∷ js) b c =
    (omega arith, all_from (λ k. j + 1 ≤ k) (λ k. a + 1 ≤ k) (λ k l. omega arith) js (rising_above j js c.0 c.1))

-- complete: what is tested of all of them is tested of every rising list of these numbers
pub risings_complete : (t : List ℕ → Bool) (a n : ℕ) → every t (risings a n) ≡ true → (js : List ℕ) → AllNeighbours ◌<◌ js → AllByRecursion (λ j. a ≤ j) js → AllByRecursion (λ j. j < a + n) js → t js ≡ true
risings_complete t a zero h [] c l u = (and_parts (t []) true h).0
risings_complete t a zero h (j ∷ js) c l u = absurd (omega (arith, l.0, u.0))
risings_complete t a (suc n) h [] c l u = risings_complete t (a + 1) n (every_append t (risings (a + 1) n) _ h).0 [] tt tt tt
risings_complete t a (suc n) h (j ∷ js) c l u =
    let k = every_append t (risings (a + 1) n) (map (λ ks. a ∷ ks) (risings (a + 1) n)) h in
    let above = rising_above j js c.0 c.1 in
    ⊎_elim
    (λ e.
    subst (λ i. t (i ∷ js) ≡ true) (sym e)
    (risings_complete (λ ks. t (a ∷ ks)) (a + 1) n (every_map t (λ ks. a ∷ ks) (risings (a + 1) n) k.1) js c.1
    (all_from (λ i. j + 1 ≤ i) (λ i. a + 1 ≤ i) (λ i b. omega arith) js above)
    (all_from (λ i. i < a + suc n) (λ i. i < a + 1 + n) (λ i b. omega arith) js u.1)))
    (⊎_elim
    (λ b. absurd (omega (arith, l.0)))
    (λ b.
    risings_complete t (a + 1) n k.0 (j ∷ js) c
    (omega arith, all_from (λ i. j + 1 ≤ i) (λ i. a + 1 ≤ i) (λ i x. omega arith) js above)
    (all_from (λ i. i < a + suc n) (λ i. i < a + 1 + n) (λ i x. omega arith) (j ∷ js) u)))
    (cases_order j a)

-- whether a list fits, as a test
abbrev before_b : (ℕ → ℕ → Bool) → ℕ → List ℕ → Bool
before_b r x [] = true
before_b r x (y ∷ ys) = r x y

abbrev chained_b : (ℕ → ℕ → Bool) → List ℕ → Bool
chained_b r [] = true
chained_b r (x ∷ xs) = before_b r x xs && chained_b r xs

decides_true : Decides true (Unit {0})
decides_true = ((λ _. tt), (λ _. refl))

decides_leb : (a b : ℕ) → Decides (leb a b) (a ≤ b)
decides_leb a b = (leb-true a b, le-leb a b)

decides_every : (t : ℕ → Bool) (P : ℕ → Type 0) → ((j : ℕ) → Decides (t j) (P j)) → (js : List ℕ) → Decides (every t js) (AllByRecursion P js)
decides_every t P d [] = decides_true
decides_every t P d (j ∷ js) = Decides-and (t j) (every t js) (d j) (decides_every t P d js)

decides_chained : (r : ℕ → ℕ → Bool) (R : ℕ → ℕ → Type 0) → ((i j : ℕ) → Decides (r i j) (R i j)) → (js : List ℕ) → Decides (chained_b r js) (AllNeighbours R js)
decides_chained r R d [] = decides_true
decides_chained r R d (j ∷ []) = Decides-and true true decides_true decides_true
decides_chained r R d (j ∷ k ∷ ks) = Decides-and (r j k) (chained_b r (k ∷ ks)) (d j k) (decides_chained r R d (k ∷ ks))

-- one score not above another, as a test
abbrev not_above : Score → Score → Bool
not_above s t = lt_z s.0 t.0 || (not (lt_z t.0 s.0) && not (lt_z t.1 s.1))

lt_z_less : (a b : ℤ) → lt_z a b ≡ true → a <ℤ b
lt_z_less a b h = grind (arith, ints)

not_lt_z : (a b : ℤ) → lt_z b a ≡ false → a ≤ℤ b
not_lt_z a b h = grind (arith, ints)

level : (a b : ℤ) → lt_z a b ≡ false → lt_z b a ≡ false → a ≡ b
level a b h k = grind (arith, ints)

not_above_lem : (s t : Score) → not_above s t ≡ true → s ≼ t
not_above_lem s t h =
    ⊎_elim (λ b. inl (lt_z_less s.0 t.0 b))
    (λ b.
    inr (
      level s.0 t.0 b (not-true _ (and_parts _ _ (or_second (lt_z s.0 t.0) _ h b)).0),
      not_lt_z s.1 t.1 (not-true _ (and_parts _ _ (or_second (lt_z s.0 t.0) _ h b)).1),
    ))
    (cases_Bool (lt_z s.0 t.0))
  where
    or_second : (x y : Bool) → (x || y) ≡ true → x ≡ false → y ≡ true
    or_second true y h e = absurd (both_ways _ e refl)
    or_second false y h e = h

decides_bool : (b : Bool) → Decides b (b ≡ true)
decides_bool b = ((λ h. h), (λ h. h))

module _ (es : List Event) (p : ℕ → Bool) (q : Query) where
  abbrev link_b : ℕ → ℕ → Bool
  link_b j k = eqb (reaches_at (event_numbered es j)) (leaves_at (event_numbered es k)) && leb (ready_at (event_numbered es j)) (time_of (event_numbered es k))

  abbrev known_b : ℕ → Bool
  known_b j = ltb j (length es) && p j

  abbrev wanted : ℕ
  wanted = cond q.call 1 0

  abbrev fits_b : List ℕ → Bool
  fits_b js =
      every known_b js
      && (chained_b ltb js
      && (chained_b link_b js
      && (leb 1 (rides es js)
      && (eqb (openings es js) wanted
      && (eqb (leaves_at (event_numbered es (first_number js))) q.from
      && (eqb (reaches_at (event_numbered es (last_number js))) q.to && (leb q.open (beginning es js) && leb (ending es js) q.close)))))))

  decides_known : (j : ℕ) → Decides (known_b j) ((j < length es) × (p j ≡ true))
  decides_known j = Decides-and (ltb j (length es)) (p j) (Decides-ltb j (length es)) (decides_bool (p j))

  decides_link : (j k : ℕ) → Decides (link_b j k) (Link es j k)
  decides_link j k = Decides-and _ _ (Decides-eqb _ _) (decides_leb _ _)

  fits_parts : (js : List ℕ) → Fits es p q js → AllByRecursion (λ j. (j < length es) × (p j ≡ true)) js × (AllNeighbours ◌<◌ js × (AllNeighbours (Link es) js × ((1 ≤ rides es js) × ((openings es js ≡ wanted) × ((leaves_at (event_numbered es (first_number js)) ≡ q.from) × ((reaches_at (event_numbered es (last_number js)) ≡ q.to) × ((q.open ≤ beginning es js) × (ending es js ≤ q.close))))))))
  fits_parts js f = let j = f.journey in (j.known, (j.rising, (j.linked, (j.ridden, (j.called, (j.departs, (j.arrives, (f.opens, f.closes))))))))

  -- sound and complete: the test is true exactly of what fits
  pub decides_fits : (js : List ℕ) → Decides (fits_b js) (Fits es p q js)
  decides_fits js =
      let d =
      Decides-and _ _ (decides_every known_b _ decides_known js)
      (Decides-and _ _ (decides_chained ltb ◌<◌ Decides-ltb js)
      (Decides-and _ _ (decides_chained link_b (Link es) decides_link js)
      (Decides-and _ _ (decides_leb 1 (rides es js))
      (Decides-and _ _ (Decides-eqb (openings es js) wanted)
      (Decides-and _ _ (Decides-eqb (leaves_at (event_numbered es (first_number js))) q.from)
      (Decides-and _ _ (Decides-eqb (reaches_at (event_numbered es (last_number js))) q.to)
      (Decides-and _ _ (decides_leb q.open (beginning es js)) (decides_leb (ending es js) q.close)))))))) in (
        (λ t.
            let f = d.0 t in
            record {
              journey =
                  record {
                    known = f.0;
                    rising = f.1.0;
                    linked = f.1.1.0;
                    ridden = f.1.1.1.0;
                    called = f.1.1.1.1.0;
                    departs = f.1.1.1.1.1.0;
                    arrives = f.1.1.1.1.1.1.0;
                  };
              opens = f.1.1.1.1.1.1.1.0;
              closes = f.1.1.1.1.1.1.1.1;
            }),
        (λ f. d.1 (fits_parts js f)),
      )

  -- what is tested of every rising list is tested of every list that fits
  abbrev every_fit : (List ℕ → Bool) → Bool
  every_fit t = every (λ js. not (fits_b js) || t js) (risings 0 (length es))

  fits_listed : (t : List ℕ → Bool) → every_fit t ≡ true → (js : List ℕ) → Fits es p q js → t js ≡ true
  fits_listed t h js f =
      ⊎_elim
      (λ n. absurd (both_ways _ (not-true _ n) ((decides_fits js).1 f)))
      (λ y. y)
      (or_cases _ _
      (risings_complete (λ ks. not (fits_b ks) || t ks) 0 (length es) h js f.journey.rising
      (all_from _ (λ j. 0 ≤ j) (λ j k. omega arith) js f.journey.known)
      (all_from (λ j. (j < length es) × (p j ≡ true)) (λ j. j < 0 + length es) (λ j k. omega (arith, k.0)) js f.journey.known)))

  pub none_listed : every_fit (λ js. false) ≡ true → NothingFits es p q
  none_listed h js f = both_ways _ refl (fits_listed (λ ks. false) h js f)

  pub only_listed : (js : List ℕ) → fits_b js ≡ true → every_fit (λ ks. bytes_eq ks js) ≡ true → IsOnlyJourney es p q js
  only_listed js t h = ((decides_fits js).0 t, λ ks f. (bytes_eq-Decides ks js).0 (fits_listed (λ is. bytes_eq is js) h ks f))

  module _ {L : Type 0} (m : Ops L) (s : Score) where
    least_listed : every_fit (λ js. not_above s (score_of m es js)) ≡ true → IsLowerBound m es p q s
    least_listed h js f = not_above_lem s (score_of m es js) (fits_listed (λ ks. not_above s (score_of m es ks)) h js f)

    pub best_listed : (js : List ℕ) → fits_b js ≡ true → score_of m es js ≡ s → every_fit (λ ks. not_above s (score_of m es ks)) ≡ true → IsBest m es p q s
    best_listed js t e h = ((js, (decides_fits js).0 t, e), least_listed h)
