-- Document 02, Item 2, "Say when nothing was rounded": small models with their two digits, in most of which a single operation of a kind loses
-- something, and one claim: that the definitions agree with all of them. The digits are those of a program of other hands, but for four models with full
-- grains and seven that were made for one operation each. Assumes nothing: these are definitions.
use Rattle.std.specs.Prelude.{ℕ, ◌≡◌, Bool, true, false, List, [], ◌∷◌, ◌++◌}
use Rattle.tree.specs.Report.{answer}
use Rattle.tree.specs.Marks.{marks_with}
use Rattle.tree.specs.Marked.{all, same_marks}

pub record MarkCase : Type 0 where
  pub words : List ℕ
  pub lower : Bool
  pub upper : Bool

-- the lower's digit and the upper's, then head, T, caps and transitions of a model whose P is 0
abbrev case : (lower upper : Bool) → (head time caps : ℕ) → (transitions : List ℕ) → MarkCase
case lower upper head time caps transitions = record {
  words = head ∷ time ∷ 0x30000000 ∷ caps ∷ (transitions ++ (0xF0000000 ∷ []));
  lower = lower;
  upper = upper;
}

-- what stands beside a model is what it loses: of the lower, where nothing else is said
unfoldable pub mark_cases : List MarkCase
mark_cases =
    -- ---- nothing is lost
    -- model A
    case true true 0x11002001 0x2000000A 0x41801000 (0x50001002 ∷ 0x60400001 ∷ [])
    -- 1 − b is far below 0: "setting a difference to 0 loses nothing"
    ∷ case true true 0x11002001 0x2000000A 0x41801000 (0x50001002 ∷ 0x60000001 ∷ [])
    -- no death path: the lower is 0, and both uppers are exact
    ∷ case true true 0x11002001 0x2000000A 0x41801000 (0x50001002 ∷ 0x60300001 ∷ 0x50002001 ∷ 0x60300001 ∷ [])
    -- N' is 1,000,000, and its grains are exact
    ∷ case true true 0x11003001 0x2000000A 0x41801000 (0x70001002 ∷ 0x8000000A ∷ 0x90000000 ∷ 0xA0000001 ∷ 0x50002003 ∷ 0x60300001 ∷ [])
    -- ---- where N' is 1,000,000: "only that path's grains count"
    -- E of state 2 would be lost, and does not count; the upper loses by the sum of both uppers
    ∷ case true false 0x11004001 0x2000000A 0x41801000
    (0x70001002 ∷ 0x8000000A ∷ 0x90000000 ∷ 0xA0000001 ∷ 0x50002003 ∷ 0x6091E241 ∷ 0x50002004 ∷ 0x61400001 ∷ [])
    -- m² and 2 × M, of the grains
    ∷ case false true 0x11003001 0x2000000A 0x41801000 (0x70001002 ∷ 0x805F423F ∷ 0x90000000 ∷ 0xA0000001 ∷ 0x50002003 ∷ 0x60300001 ∷ [])
    -- T2, of the grains of class 2
    ∷ case false true 0x11002001 0x20009C42 0x41801000 (0x70001002 ∷ 0x80005460 ∷ 0x90015310 ∷ 0xA0000001 ∷ [])
    -- d² in H, of the grains of class 3
    ∷ case false true 0x11005001 0x2000000A 0x41801000
    (0x70001002 ∷ 0x8000000A ∷ 0x90000000 ∷ 0xA0000001 ∷ 0x50002003 ∷ 0x60300001 ∷ 0x70002001 ∷ 0x80000001 ∷ 0x9020A27B ∷ 0xA0100003
    ∷ 0x70002004 ∷ 0x80000001 ∷ 0x90000000 ∷ 0xA0100007 ∷ 0x50004001 ∷ 0x60300001 ∷ [])
    -- q × M in H, of the grains of class 3
    ∷ case false true 0x11005001 0x2000000A 0x41801000
    (0x70001002 ∷ 0x8000000A ∷ 0x90000000 ∷ 0xA0000001 ∷ 0x50002003 ∷ 0x60300001 ∷ 0x70002001 ∷ 0x80000001 ∷ 0x90206A03 ∷ 0xA0300011
    ∷ 0x70002004 ∷ 0x80000001 ∷ 0x90000000 ∷ 0xA03003D7 ∷ 0x50004001 ∷ 0x60300001 ∷ [])
    -- the sum H, of the grains of class 3
    ∷ case false true 0x11005001 0x2000000A 0x41801000
    (0x70001002 ∷ 0x8000000A ∷ 0x90000000 ∷ 0xA0000001 ∷ 0x50002003 ∷ 0x60300001 ∷ 0x70002001 ∷ 0x80000001 ∷ 0x900043B5 ∷ 0xA0200011
    ∷ 0x70002004 ∷ 0x80000001 ∷ 0x90000000 ∷ 0xA0200053 ∷ 0x50004001 ∷ 0x60300001 ∷ [])
    -- ---- grains
    -- m²: N' is 1,000,000 or more
    ∷ case false true 0x11003001 0x20100001 0x41801000
    (0x70001002 ∷ 0x80800002 ∷ 0x90000000 ∷ 0xA010000A ∷ 0x70002003 ∷ 0x8011E241 ∷ 0x90000000 ∷ 0xA0000001 ∷ [])
    -- d²: likewise
    ∷ case false true 0x11004001 0x20000001 0x41801000 (0x70001002 ∷ 0x80601324 ∷ 0x906CCC30 ∷ 0xA0000001 ∷ [])
    -- m² + d²: likewise
    ∷ case false true 0x11004001 0x20A00001 0x41801000 (0x70001002 ∷ 0x80B011F1 ∷ 0x90C01713 ∷ 0xA0000001 ∷ [])
    -- 2 × M
    ∷ case false true 0x11004001 0x20A00001 0x41801000 (0x70001002 ∷ 0x80B071A7 ∷ 0x90B009E0 ∷ 0xA0000001 ∷ [])
    -- class 2: 2 × M / T2
    ∷ case false true 0x11003001 0x20000010 0x41801000
    (0x70001002 ∷ 0x8000007D ∷ 0x900000FA ∷ 0xA0000001 ∷ 0x50001003 ∷ 0x60200019 ∷ 0x50003001 ∷ 0x60300001 ∷ [])
    -- class 3: H / (h' × T)
    ∷ case false true 0x11004001 0x2000000A 0x41801000
    (0x70001003 ∷ 0x8010007D ∷ 0x9010007D ∷ 0xA0100002 ∷ 0x70001004 ∷ 0x80000014 ∷ 0x90000000 ∷ 0xA0100008 ∷ 0x50001002 ∷ 0x60258EEE
    ∷ 0x50003001 ∷ 0x60300001 ∷ 0x50004001 ∷ 0x60300001 ∷ [])
    -- ---- a class 2 factor
    -- T2, of grains and factor
    ∷ case false true 0x11002001 0x20009C42 0x41801000 (0x70001002 ∷ 0x803000D8 ∷ 0x90300364 ∷ 0xA0000001 ∷ [])
    -- E; the upper by its sum to nine digits
    ∷ case false false 0x11004001 0x2000000A 0x41801000
    (0x70001002 ∷ 0x80600064 ∷ 0x906000C8 ∷ 0xA0000001 ∷ 0x50001003 ∷ 0x601E9220 ∷ 0x50001004 ∷ 0x60800004 ∷ 0x50003001 ∷ 0x60300001
    ∷ 0x50004001 ∷ 0x60300001 ∷ [])
    -- E × m; the upper likewise
    ∷ case false false 0x11004001 0x200003E8 0x41801000
    (0x70001002 ∷ 0x80603E80 ∷ 0x90000000 ∷ 0xA0000001 ∷ 0x50001003 ∷ 0x6006C060 ∷ 0x50001004 ∷ 0x603205AB ∷ 0x50003001 ∷ 0x60300001
    ∷ 0x50004001 ∷ 0x60300001 ∷ [])
    -- n²
    ∷ case false true 0x11002001 0x20000001 0x41801000 (0x70001002 ∷ 0x8050018C ∷ 0x90500194 ∷ 0xA0000001 ∷ [])
    -- M / (n² × T2)
    ∷ case false true 0x11002001 0x20000002 0x41801000 (0x70001002 ∷ 0x80400100 ∷ 0x90400200 ∷ 0xA0000001 ∷ [])
    -- 1 − y
    ∷ case false true 0x11002001 0x20000004 0x41801000 (0x70001002 ∷ 0x80D00004 ∷ 0x90D00004 ∷ 0xA0000001 ∷ [])
    -- q × (1 − y)
    ∷ case false true 0x11003001 0x200003E8 0x41801000
    (0x70001002 ∷ 0x80B61A80 ∷ 0x90600002 ∷ 0xA0200019 ∷ 0x70001003 ∷ 0x8097A120 ∷ 0x9097A120 ∷ 0xA020004B ∷ [])
    -- ---- a class 3 factor
    -- E × H; the upper loses by U × h
    ∷ case false false 0x11003001 0x20000064 0x41801000
    (0x70001003 ∷ 0x80864000 ∷ 0x90000000 ∷ 0xA0000001 ∷ 0x50001002 ∷ 0x60295F52 ∷ 0x50003001 ∷ 0x60300001 ∷ [])
    -- E × H / 2
    ∷ case false true 0x11003001 0x20000002 0x41801000
    (0x70001003 ∷ 0x806000FA ∷ 0x906001F4 ∷ 0xA0000001 ∷ 0x50001002 ∷ 0x602393E5 ∷ 0x50003001 ∷ 0x60300001 ∷ [])
    -- H / (n × T)
    ∷ case false true 0x11003001 0x20000008 0x41801000
    (0x70001003 ∷ 0x80200100 ∷ 0x90000000 ∷ 0xA0000001 ∷ 0x50001002 ∷ 0x6020007D ∷ 0x50003001 ∷ 0x60300001 ∷ [])
    -- h' − y
    ∷ case false true 0x11003001 0x20100001 0x41801000
    (0x70001003 ∷ 0x80600050 ∷ 0x90600050 ∷ 0xA0000001 ∷ 0x50001002 ∷ 0x60400003 ∷ 0x50003001 ∷ 0x60300001 ∷ [])
    -- rate × (h' − y)
    ∷ case false true 0x11003001 0x200003E8 0x41801000
    (0x70001003 ∷ 0x80909C40 ∷ 0x90000000 ∷ 0xA0000001 ∷ 0x50001002 ∷ 0x60300004 ∷ 0x50003001 ∷ 0x60300001 ∷ [])
    -- ---- the product and the last factor
    -- class 1: by the rate; the upper by that and by k
    ∷ case false false 0x11004001 0x200003E8 0x41801000 (0x50001002 ∷ 0x60740000 ∷ 0x50002003 ∷ 0x60745C12 ∷ 0x50003004 ∷ 0x60100008 ∷ [])
    -- class 1: by t
    ∷ case false true 0x11003001 0x20000002 0x41801000 (0x70001002 ∷ 0x80800400 ∷ 0x90800800 ∷ 0xA0000001 ∷ 0x50002003 ∷ 0x60100010 ∷ [])
    -- class 1: by k, of both
    ∷ case false false 0x11004001 0x20000400 0x41801000 (0x50001002 ∷ 0x60400005 ∷ 0x50002003 ∷ 0x60300007 ∷ 0x50003004 ∷ 0x60400005 ∷ [])
    -- class 2: by its factor
    ∷ case false true 0x11003001 0x20002710 0x41801000 (0x50001002 ∷ 0x60100008 ∷ 0x70002003 ∷ 0x80600001 ∷ 0x90600001 ∷ 0xA0000001 ∷ [])
    -- class 3: by its factor
    ∷ case false true 0x11004001 0x20000064 0x41801000
    (0x50001002 ∷ 0x60200005 ∷ 0x70002004 ∷ 0x80901F40 ∷ 0x90901F40 ∷ 0xA0000001 ∷ 0x50002003 ∷ 0x60000007 ∷ 0x50004001 ∷ 0x60300001 ∷ [])
    -- up(t) alone, where A is 0
    ∷ case false true 0x11002001 0x20000400 0x41801000 (0x70001002 ∷ 0x80900800 ∷ 0x90901000 ∷ 0xA0000001 ∷ [])
    -- E in A; the upper by its sum to nine digits
    ∷ case false false 0x11003001 0x20000019 0x40201000 (0x50001002 ∷ 0x6036D248 ∷ 0x50001003 ∷ 0x6091E241 ∷ [])
    -- the sum A
    ∷ case false true 0x11006001 0x2000000A 0x41801000
    (0x50001002 ∷ 0x60100011 ∷ 0x50002003 ∷ 0x60400021 ∷ 0x50003004 ∷ 0x60100004 ∷ 0x50004005 ∷ 0x609F423F ∷ 0x50005006 ∷ 0x60400002 ∷ [])
    -- t × A; the upper by its sum to nine digits
    ∷ case false false 0x11003001 0x20000400 0x40201000 (0x50001002 ∷ 0x6091E241 ∷ 0x50001003 ∷ 0x60791FC4 ∷ [])
    -- b, the quotient by k + 1
    ∷ case false true 0x11003001 0x20000002 0x41801000 (0x50001002 ∷ 0x60300019 ∷ 0x50002003 ∷ 0x6044B58E ∷ [])
    -- 1 − b
    ∷ case false true 0x11002001 0x2000000A 0x40201000 (0x50001002 ∷ 0x61400001 ∷ [])
    -- the product by the last factor
    ∷ case false true 0x11002001 0x20100001 0x40201000 (0x50001002 ∷ 0x6053BF3A ∷ [])
    -- ---- U
    -- class 1: by the rate; the lower by that and by b
    ∷ case false false 0x11003001 0x20002710 0x41801000 (0x50001002 ∷ 0x6061D38C ∷ 0x50002003 ∷ 0x60828000 ∷ [])
    -- class 1: by T
    ∷ case false false 0x11002001 0x20003039 0x41801000 (0x50001002 ∷ 0x60BC987E ∷ [])
    -- class 2: by q
    ∷ case false false 0x11005001 0x20301388 0x41801000
    (0x50001002 ∷ 0x605F423F ∷ 0x70002003 ∷ 0x80D3D090 ∷ 0x90D3D090 ∷ 0xA03002CB ∷ 0x70002004 ∷ 0x8113D090 ∷ 0x90000000 ∷ 0xA030011D ∷ [])
    -- q × m in h
    ∷ case false false 0x11004001 0x20000001 0x41801000
    (0x70001003 ∷ 0x804EE2D0 ∷ 0x90000000 ∷ 0xA064A138 ∷ 0x70001004 ∷ 0x802003E8 ∷ 0x90000000 ∷ 0xA06AA108 ∷ 0x50001002 ∷ 0x60000014 ∷ [])
    -- the sum h
    ∷ case false false 0x11004001 0x20000001 0x41801000
    (0x70001003 ∷ 0x8058195C ∷ 0x90000000 ∷ 0xA0608953 ∷ 0x70001004 ∷ 0x800003E8 ∷ 0x90000000 ∷ 0xA06EB8ED ∷ 0x50001002 ∷ 0x60001388 ∷ [])
    -- ---- operations that only a model made for them isolates
    -- class 3: q × m in h', where N' is 1,000,000; the upper by h
    ∷ case false false 0x11005001 0x20500001 0x40101000
    (0x50001002 ∷ 0x60400001 ∷ 0x70001003 ∷ 0x800020F0 ∷ 0x90001500 ∷ 0xA061CF5B ∷ 0x70001004 ∷ 0x80002580 ∷ 0x90000AF0 ∷ 0xA061D877
    ∷ 0x70001005 ∷ 0x80002710 ∷ 0x90000000 ∷ 0xA06B9A6E ∷ 0x50003001 ∷ 0x60300001 ∷ 0x50004001 ∷ 0x60300001 ∷ 0x50005001 ∷ 0x60300001 ∷ [])
    -- class 3: the sum h', where N' is 1,000,000; the upper by h
    ∷ case false false 0x11004001 0x20500001 0x40101000
    (0x50001002 ∷ 0x60400001 ∷ 0x70001003 ∷ 0x80000001 ∷ 0x90000000 ∷ 0xA06F423F ∷ 0x70001004 ∷ 0x803003EC ∷ 0x903000E4 ∷ 0xA0600001
    ∷ 0x50003001 ∷ 0x60300001 ∷ 0x50004001 ∷ 0x60300001 ∷ [])
    -- class 3: h' × T, where N' is 1,000,000
    ∷ case false true 0x11003001 0x20957509 0x40101000
    (0x50001002 ∷ 0x60400001 ∷ 0x70001003 ∷ 0x80406D39 ∷ 0x90000000 ∷ 0xA0000001 ∷ 0x50003001 ∷ 0x60300001 ∷ [])
    -- class 2: n² × T2
    ∷ case false true 0x11002001 0x20000002 0x41801000 (0x70001002 ∷ 0x806001D2 ∷ 0x90600C1C ∷ 0xA0000001 ∷ [])
    -- class 2: the sum y
    ∷ case false true 0x11003001 0x200186A0 0x40101000
    (0x50001003 ∷ 0x60030D40 ∷ 0x70001002 ∷ 0x80600001 ∷ 0x90000000 ∷ 0xA0000001 ∷ 0x50003001 ∷ 0x60000001 ∷ [])
    -- class 3: the sum y
    ∷ case false true 0x11003001 0x20061A80 0x40101000
    (0x50001002 ∷ 0x6007A120 ∷ 0x70001003 ∷ 0x809003EA ∷ 0x90000000 ∷ 0xA0000001 ∷ 0x50003001 ∷ 0x60000001 ∷ [])
    -- U, class 3: by the rate; the lower by more
    ∷ case false false 0x11004001 0x2000000A 0x41801000
    (0x50001002 ∷ 0x6071E241 ∷ 0x50002003 ∷ 0x6059FBF1 ∷ 0x70002004 ∷ 0x80000001 ∷ 0x90000000 ∷ 0xA0000001 ∷ [])
    -- ---- totals
    -- the lower total's eighteen digits; the upper's too
    ∷ case false false 0x11008001 0x20400001 0x41801000
    (0x50001002 ∷ 0x60000007 ∷ 0x50001003 ∷ 0x60000001 ∷ 0x50003004 ∷ 0x60000002 ∷ 0x50004005 ∷ 0x60000003 ∷ 0x50005006 ∷ 0x60000004
    ∷ 0x50006007 ∷ 0x60000005 ∷ 0x50007008 ∷ 0x60000006 ∷ [])
    -- the lower total to nine digits
    ∷ case false true 0x11003001 0x20100001 0x41801000 (0x50001002 ∷ 0x60606400 ∷ 0x50001003 ∷ 0x60500002 ∷ [])
    -- the death uppers' eighteen digits
    ∷ case false false 0x11004001 0x20100BB5 0x41801000 (0x50001002 ∷ 0x60251763 ∷ 0x50001003 ∷ 0x60B51763 ∷ 0x50001004 ∷ 0x61400001 ∷ [])
    -- a cut path's U: the upper alone
    ∷ case true false 0x11003001 0x2000000A 0x40201000 (0x50001002 ∷ 0x60300007 ∷ 0x50001003 ∷ 0x6052F6EC ∷ 0x50003001 ∷ 0x6091E241 ∷ [])
    -- the cut uppers' eighteen digits
    ∷ case true false 0x11005001 0x20100001 0x40101000
    (0x50001002 ∷ 0x60000001 ∷ 0x50001003 ∷ 0x60EF423F ∷ 0x50001004 ∷ 0x614F423F ∷ 0x50002005 ∷ 0x60300001 ∷ 0x50003005 ∷ 0x60300001
    ∷ 0x50004005 ∷ 0x60300001 ∷ [])
    ∷ []

abbrev million : ℕ
million = 1000000

unfoldable pub mark_case_agrees : MarkCase → Bool
mark_case_agrees c =
    same_marks (marks_with c.words million (answer c.words million)) (record { lower = c.lower; upper = c.upper })

unfoldable pub MarkCasesAgree : Type 0
MarkCasesAgree = all mark_case_agrees mark_cases ≡ true
