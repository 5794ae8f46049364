-- The pieces of the script, one behind the other, are its lines.
use Rattle.std.proofs.Common.{ℕ, ◌≡◌, ◌∙◌, ◌≤◌, ◌+◌, ◌<◌, ◌^◌, ap, sym, ◌++◌, length, drop, codes, arith, append_assoc, length-append}
use Rattle.std.specs.List.{concat}
use Rattle.std.specs.Fmt.{decimal}
use Rattle.std.proofs.lemmas.Fmt.{length-decimal-le}
use Rattle.rb_workload.specs.Script.{Text, line, lines, script}

-- what stands before, between and behind the numbers
abbrev pub array : Text
array = codes "$a = Array.new("

abbrev pub threads : Text
threads = codes ", 0)\n$m = Mutex.new\n$t = 0\nthreads = []\n4.times do |k|\n  threads << Thread.new(k) do |j|\n    s = "

abbrev pub loop : Text
loop = codes " + j\n    i = j\n    while i < "

abbrev pub sums : Text
sums = codes "\n      s = (s * 1103515245 + 12345) % 2147483648\n      $a[i] = s % 1000\n      i += 4\n    end\n    $m.synchronize { $t += s % 1000 }\n  end\nend\nthreads.each { |x| x.join }\nsum = 0\n$a.each { |v| sum += v }\nputs sum\nputs $t\n"

-- one text behind the other, as the code adds them
abbrev pub added : Text → Text → Text
added number size = array ++ size ++ threads ++ number ++ loop ++ size ++ sums

-- the same, nested the other way
abbrev nested : Text → Text → Text
nested number size = array ++ (size ++ (threads ++ (number ++ (loop ++ (size ++ sums)))))

seven : (a b c d e f g : Text) → a ++ b ++ c ++ d ++ e ++ f ++ g ≡ a ++ (b ++ (c ++ (d ++ (e ++ (f ++ g)))))
seven a b c d e f g =
    append_assoc (a ++ b ++ c ++ d ++ e) f g ∙ append_assoc (a ++ b ++ c ++ d) e (f ++ g) ∙ append_assoc (a ++ b ++ c) d (e ++ (f ++ g))
    ∙ append_assoc (a ++ b) c (d ++ (e ++ (f ++ g))) ∙ append_assoc a b (c ++ (d ++ (e ++ (f ++ g))))

length-seven : (a b c d e f g : Text) → length (a ++ b ++ c ++ d ++ e ++ f ++ g) ≡ length a + length b + length c + length d + length e + length f + length g
length-seven a b c d e f g =
    let six = length-append (a ++ b ++ c ++ d ++ e ++ f) g in
    let five = length-append (a ++ b ++ c ++ d ++ e) f in
    let four = length-append (a ++ b ++ c ++ d) e in
    let three = length-append (a ++ b ++ c) d in
    let two = length-append (a ++ b) c in
    let one = length-append a b in
    omega (arith, six, five, four, three, two, one)

-- a line with a number in it, and one with a number at its end
line_around : (a n b rest : Text) → line (a ++ n ++ b) ++ rest ≡ a ++ (n ++ ((b ++ codes "\n") ++ rest))
line_around a n b rest =
    append_assoc (a ++ n ++ b) (codes "\n") rest ∙ append_assoc (a ++ n) b (codes "\n" ++ rest) ∙ append_assoc a n (b ++ (codes "\n" ++ rest))
    ∙ ap (λ (r : Text). a ++ (n ++ r)) (sym (append_assoc b (codes "\n") rest))

line_end : (a n rest : Text) → line (a ++ n) ++ rest ≡ a ++ (n ++ (codes "\n" ++ rest))
line_end a n rest = append_assoc (a ++ n) (codes "\n") rest ∙ append_assoc a n (codes "\n" ++ rest)

module _ (number size : ℕ) where
  abbrev n : Text
  n = decimal number

  abbrev s : Text
  s = decimal size

  -- the lines behind the first so many
  abbrev behind : ℕ → Text
  behind count = concat (drop count (lines number size))

  pub pieces : added n s ≡ script number size
  unfolding script
  pieces =
      let again = line_end (codes "    while i < ") s (behind 9) in
      let begins = line_around (codes "    s = ") n (codes " + j") (behind 7) in
      let makes = line_around array s (codes ", 0)") (behind 1) in
      seven array s threads n loop s sums
      ∙ ap (λ (rest : Text). array ++ (s ++ (threads ++ (n ++ (codes " + j\n    i = j\n" ++ rest))))) (sym again)
      ∙ ap (λ (rest : Text). array ++ (s ++ (codes ", 0)\n$m = Mutex.new\n$t = 0\nthreads = []\n4.times do |k|\n  threads << Thread.new(k) do |j|\n" ++ rest))) (sym begins)
      ∙ sym makes

  size_is : length (added n s) ≡ length array + length s + length threads + length n + length loop + length s + length sums
  size_is = length-seven array s threads n loop s sums

  pub short : number < 2 ^ 64 → size < 2 ^ 64 → length (added n s) ≤ 1000
  short n_fits s_fits =
      let n_short = length-decimal-le 20 number (omega arith) (omega arith) n_fits in
      let s_short = length-decimal-le 20 size (omega arith) (omega arith) s_fits in
      omega (arith, size_is, n_short, s_short)
