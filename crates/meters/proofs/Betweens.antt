-- Whatever the rule holds of are lawful meters that are shown.
use Rattle.meters.proofs.Common.{◌≡◌, ◌+◌, ◌<◌, ℕ, length, get_or, List, take, drop, refl, sym, ◌∙◌, arith, None, Reading, Shape, State, meters_of, SeatView, Rule, word_of, WordsShow}
use Rattle.std.proofs.Common.{map, length-drop, length-take, get_or-drop, get_or-take}
use Rattle.std.proofs.lemmas.Grind.{same_number_lists}
use Rattle.std.proofs.lemmas.List.{length-map, get_or-map}
use Rattle.meters.specs.Between.{ShowsMeters}

-- numbers that are in the gauges' words
pub gauges_by : (gauges words : List ℕ) → length words ≡ 26 → length gauges ≡ 8 → ((g : ℕ) → g < 8 → get_or gauges g 0 ≡ get_or words (1 + g) 0) → gauges ≡ take 8 (drop 1 words)
gauges_by gauges words wide eight same = let d = length-drop 1 words in let t = length-take 8 (drop 1 words) in same_number_lists gauges (take 8 (drop 1 words)) (omega arith)
    (λ g b. same g (omega arith) ∙ (sym (get_or-drop 1 words g 0) ∙ sym (get_or-take 8 (drop 1 words) g 0 (omega arith))))

pub shown_gauges : (m : Reading) (words : List ℕ) → WordsShow m words → m.gauges ≡ take 8 (drop 1 words)
shown_gauges m words h = gauges_by m.gauges words h.wide h.eight (λ g b. sym (h.gauges g b))

shown_alarms : (m : Reading) (words : List ℕ) → WordsShow m words → map word_of m.slots ≡ drop 10 words
shown_alarms m words h = let sixteen = h.slots.sixteen in let wide = h.wide in let d = length-drop 10 words in let l = length-map m.slots word_of in same_number_lists (map word_of m.slots) (drop 10 words) (omega arith)
    (λ k b. get_or-map word_of m.slots k None 0 (omega arith) ∙ (sym (h.slots.each k (omega arith)) ∙ sym (get_or-drop 10 words k 0)))

pub shows_meters : (key : Shape) (s : State Unit SeatView) → Rule key s → ShowsMeters key s
shows_meters key s k = let m : Reading = k.now.object in record {
  now = k.now;
  meters = meters_of m;
  same = refl;
  lawful = k.stands.lawful;
  shown = record {
    long = k.stands.shows.wide;
    gauges = shown_gauges m s.words k.stands.shows;
    clock = sym k.stands.shows.clock;
    tick = k.stands.shows.bounded;
    fit = k.stands.shows.slots.fit;
    alarms = shown_alarms m s.words k.stands.shows;
    sums = k.listed.gauges;
    advances = k.listed.advances;
    set = k.listed.set;
    fired = k.listed.fired;
    cancelled = k.listed.cancelled;
    once = λ a. (let x = k.stands.lawful a in let f = k.listed.set a in let g = k.listed.fired a in let h = k.listed.cancelled a in omega arith);
  };
  number = k.stands.number;
  true_ends = k.stands.true_ends;
}
