-- Values that the rules keep or refuse, so that a wrong rule in the specs does not check.
use Rattle.std.proofs.Common.{◌≡◌, [], ◌∷◌, map, replicate, Ok, Err, refl, ◌++◌, codes, decimal}
use Rattle.misp_types.specs.declared.fault.ValueFault.{ValueFault}
use Rattle.misp_types.specs.Kinds.{rule_of, form_of}
use Rattle.misp_types.specs.Values.{kept_of}

-- Digests: lower case, of the length of their kind.
pub known_digests : (map (kept_of (codes "md5")) (
    codes "D41D8CD98F00B204E9800998ECF8427E" ∷ codes "abc" ∷ codes "g41d8cd98f00b204e9800998ecf8427e" ∷ codes ""
    ∷ codes "d41d8cd98f00b204e9800998ecf8427" ∷ codes "d41d8cd98f00b204e9800998ecf8427g" ∷ [])
    ≡ (Ok (codes "d41d8cd98f00b204e9800998ecf8427e") ∷ Err ValueFault.WrongLength ∷ Err (ValueFault.WrongDigit 0) ∷ Err ValueFault.WrongLength
    ∷ Err ValueFault.WrongLength ∷ Err (ValueFault.WrongDigit 31) ∷ []))
    × (map (kept_of (codes "sha1")) (
    codes "DA39A3EE5E6B4B0D3255BFEF95601890AFD80709" ∷ codes "d41d8cd98f00b204e9800998ecf8427e" ∷ [])
    ≡ (Ok (codes "da39a3ee5e6b4b0d3255bfef95601890afd80709") ∷ Err ValueFault.WrongLength ∷ []))
    × (map (kept_of (codes "sha256")) (
    codes "E3B0C44298FC1C149AFBF4C8996FB92427AE41E4649B934CA495991B7852B855"
    ∷ codes "e3b0c44 x8fc1c149afbf4c8996fb92427ae41e4649b934ca495991b7852b855" ∷ [])
    ≡ (Ok (codes "e3b0c44298fc1c149afbf4c8996fb92427ae41e4649b934ca495991b7852b855") ∷ Err (ValueFault.WrongDigit 7) ∷ []))
    × (map (kept_of (codes "sha512")) (
    codes "CF83E1357EEFB8BDF1542850D66D8007D620E4050B5715DC83F4A921D36CE9CE47D0D13C5D85F2B0FF8318D2877EEC2F63B931BD47417A81A538327AF927DA3E"
    ∷ codes "e3b0c44298fc1c149afbf4c8996fb92427ae41e4649b934ca495991b7852b855" ∷ [])
    ≡ (Ok (codes "cf83e1357eefb8bdf1542850d66d8007d620e4050b5715dc83f4a921d36ce9ce47d0d13c5d85f2b0ff8318d2877eec2f63b931bd47417a81a538327af927da3e")
    ∷ Err ValueFault.WrongLength ∷ []))
unfolding kept_of rule_of form_of
known_digests = (refl, refl, refl, refl)

-- Addresses of either family, maybe with the length of a prefix.
pub known_addresses : (map (kept_of (codes "ip-src")) (
    codes "203.0.113.7" ∷ codes "0.0.0.0/0" ∷ codes "::" ∷ codes "::FFFF:192.0.2.1/128" ∷ codes "" ∷ codes "1.2.3.4/33" ∷ codes "1.2.3.4/08"
    ∷ codes "1.2.3.4/" ∷ codes "1.2.3.4/24/8" ∷ codes "1:2" ∷ codes "::g" ∷ codes "::1/129"
    ∷ codes "::::::::::::::::::::::::::::::::::::::::::::::" ∷ [])
    ≡ (Ok (codes "203.0.113.7") ∷ Ok (codes "0.0.0.0/0") ∷ Ok (codes "::") ∷ Ok (codes "::ffff:192.0.2.1/128") ∷ Err ValueFault.WrongLength
    ∷ Err (ValueFault.WrongPart 2) ∷ Err (ValueFault.WrongPart 2) ∷ Err (ValueFault.WrongPart 2) ∷ Err (ValueFault.WrongPart 2)
    ∷ Err (ValueFault.WrongPart 1) ∷ Err (ValueFault.WrongPart 1) ∷ Err (ValueFault.WrongPart 2) ∷ Err (ValueFault.WrongPart 1) ∷ []))
    × (map (kept_of (codes "ip-dst")) (
    codes "203.0.113.7" ∷ codes "2001:DB8::1/64" ∷ codes "256.0.113.7" ∷ codes "203.0.113.07" ∷ codes "203.0.113.7/33" ∷ codes "::/129"
    ∷ codes "255.255.255.255/32" ∷ codes "01.2.3.4" ∷ codes "1.2.3.256" ∷ codes "1.2.3" ∷ codes "1.2.3.4.5" ∷ codes "1..2.3" ∷ codes "1.2.3.4 "
    ∷ codes "/33" ∷ codes "1.2.3/33" ∷ [])
    ≡ (Ok (codes "203.0.113.7") ∷ Ok (codes "2001:db8::1/64") ∷ Err (ValueFault.WrongPart 1) ∷ Err (ValueFault.WrongPart 1)
    ∷ Err (ValueFault.WrongPart 2) ∷ Err (ValueFault.WrongPart 2) ∷ Ok (codes "255.255.255.255/32") ∷ Err (ValueFault.WrongPart 1)
    ∷ Err (ValueFault.WrongPart 1) ∷ Err (ValueFault.WrongPart 1) ∷ Err (ValueFault.WrongPart 1) ∷ Err (ValueFault.WrongPart 1)
    ∷ Err (ValueFault.WrongPart 1) ∷ Err (ValueFault.WrongPart 1) ∷ Err (ValueFault.WrongPart 1) ∷ []))
unfolding kept_of rule_of form_of
known_addresses = (refl, refl)

-- Names of hosts.
pub known_names : (map (kept_of (codes "domain")) (
    codes "Mail.Example.ORG" ∷ codes "no spaces" ∷ codes "a/b" ∷ codes "EXAMPLE.Org" ∷ codes "" ∷ replicate 256 97 ∷ codes "a b/c" ∷ [])
    ≡ (Ok (codes "mail.example.org") ∷ Err (ValueFault.WrongDigit 2) ∷ Err (ValueFault.WrongDigit 1) ∷ Ok (codes "example.org")
    ∷ Err ValueFault.WrongLength ∷ Err ValueFault.WrongLength ∷ Err (ValueFault.WrongDigit 1) ∷ []))
    × (map (kept_of (codes "hostname")) (
    codes "Süd.EXAMPLE" ∷ codes "a.org/c d" ∷ codes "a\n" ∷ [])
    ≡ (Ok (codes "süd.example") ∷ Err (ValueFault.WrongDigit 5) ∷ Err (ValueFault.WrongDigit 1) ∷ []))
unfolding kept_of rule_of form_of
known_names = (refl, refl)

-- Numbers without leading zeros, those of systems with their mark.
pub known_numbers : (map (kept_of (codes "port")) (
    codes "443" ∷ codes "0" ∷ codes "65536" ∷ codes "080" ∷ codes "1" ∷ codes "65535" ∷ codes "+80" ∷ codes "99999999999999999999999999" ∷ [])
    ≡ (Ok (codes "443") ∷ Err (ValueFault.WrongPart 1) ∷ Err (ValueFault.WrongPart 1) ∷ Err (ValueFault.WrongPart 1) ∷ Ok (codes "1")
    ∷ Ok (codes "65535") ∷ Err (ValueFault.WrongPart 1) ∷ Err (ValueFault.WrongPart 1) ∷ []))
    × (map (kept_of (codes "AS")) (
    codes "as64500" ∷ codes "64500" ∷ codes "As64500" ∷ codes "AS4294967296" ∷ codes "as64496" ∷ codes "AS4294967295" ∷ codes "0" ∷ codes "AS"
    ∷ codes "aS1" ∷ codes "AS01" ∷ [])
    ≡ (Ok (codes "AS" ++ decimal 64500) ∷ Ok (codes "AS" ++ decimal 64500) ∷ Err (ValueFault.WrongPart 1) ∷ Err (ValueFault.WrongPart 1) ∷ Ok (codes "AS" ++ decimal 64496)
    ∷ Ok (codes "AS" ++ decimal 4294967295) ∷ Ok (codes "AS" ++ decimal 0) ∷ Err (ValueFault.WrongPart 1) ∷ Err (ValueFault.WrongPart 1) ∷ Err (ValueFault.WrongPart 1) ∷ []))
unfolding kept_of rule_of form_of
known_numbers = (refl, refl)

-- Pairs, cut at the last bar.
pub known_pairs : (map (kept_of (codes "filename|md5")) (
    codes "a|b.exe|D41D8CD98F00B204E9800998ECF8427E" ∷ codes "b.exe" ∷ codes "A|B|D41D8CD98F00B204E9800998ECF8427E" ∷ codes ""
    ∷ codes "d41d8cd98f00b204e9800998ecf8427e" ∷ codes "a|" ∷ codes "|d41d8cd98f00b204e9800998ecf8427e" ∷ codes "|" ∷ [])
    ≡ (Ok (codes "a|b.exe|d41d8cd98f00b204e9800998ecf8427e") ∷ Err (ValueFault.WrongPart 2) ∷ Ok (codes "A|B|d41d8cd98f00b204e9800998ecf8427e")
    ∷ Err ValueFault.WrongLength ∷ Err (ValueFault.WrongPart 2) ∷ Err (ValueFault.WrongPart 2) ∷ Err (ValueFault.WrongPart 1)
    ∷ Err (ValueFault.WrongPart 1) ∷ []))
    × (map (kept_of (codes "filename|sha1")) (
    codes "X|DA39A3EE5E6B4B0D3255BFEF95601890AFD80709" ∷ codes "a|d41d8cd98f00b204e9800998ecf8427e" ∷ [])
    ≡ (Ok (codes "X|da39a3ee5e6b4b0d3255bfef95601890afd80709") ∷ Err (ValueFault.WrongPart 2) ∷ []))
    × (map (kept_of (codes "filename|sha256")) (
    codes "X|E3B0C44298FC1C149AFBF4C8996FB92427AE41E4649B934CA495991B7852B855" ∷ [])
    ≡ (Ok (codes "X|e3b0c44298fc1c149afbf4c8996fb92427ae41e4649b934ca495991b7852b855") ∷ []))
    × (map (kept_of (codes "domain|ip")) (
    codes "Example.ORG|203.0.113.7" ∷ codes "Example.ORG|2001:DB8::/32" ∷ codes "|1.2.3.4" ∷ codes "a b|1.2.3.4" ∷ codes "a.org|1.2.3" ∷ [])
    ≡ (Ok (codes "example.org|203.0.113.7") ∷ Ok (codes "example.org|2001:db8::/32") ∷ Err (ValueFault.WrongPart 1) ∷ Err (ValueFault.WrongPart 1)
    ∷ Err (ValueFault.WrongPart 2) ∷ []))
    × (map (kept_of (codes "ip-src|port")) (
    codes "ABCD::|443" ∷ codes "1.2.3.4/33|80" ∷ [])
    ≡ (Ok (codes "abcd::|443") ∷ Err (ValueFault.WrongPart 1) ∷ []))
    × (map (kept_of (codes "ip-dst|port")) (
    codes "203.0.113.7|70000" ∷ codes "192.0.2.1/24|80" ∷ codes "1.2.3.4|0" ∷ [])
    ≡ (Err (ValueFault.WrongPart 2) ∷ Ok (codes "192.0.2.1/24|80") ∷ Err (ValueFault.WrongPart 2) ∷ []))
unfolding kept_of rule_of form_of
known_pairs = (refl, refl, refl, refl, refl, refl)

-- Any other type keeps its text; those of files are refused.
pub known_texts : (map (kept_of (codes "text")) (
    codes "Any text" ∷ codes "Any TEXT | at all" ∷ codes "" ∷ [])
    ≡ (Ok (codes "Any text") ∷ Ok (codes "Any TEXT | at all") ∷ Err ValueFault.WrongLength ∷ []))
    × (map (kept_of (codes "MD5")) (
    codes "no digest" ∷ [])
    ≡ (Ok (codes "no digest") ∷ []))
    × (map (kept_of (codes "filename|sha512")) (
    codes "no |" ∷ [])
    ≡ (Ok (codes "no |") ∷ []))
    × (map (kept_of (codes "attachment")) (
    codes "" ∷ codes "x" ∷ [])
    ≡ (Err ValueFault.BinaryType ∷ Err ValueFault.BinaryType ∷ []))
    × (map (kept_of (codes "malware-sample")) (
    codes "a.exe" ∷ codes "" ∷ [])
    ≡ (Err ValueFault.BinaryType ∷ Err ValueFault.BinaryType ∷ []))
unfolding kept_of rule_of form_of
known_texts = (refl, refl, refl, refl, refl)
